-- The workshop's tag: instruction bytes × 100 by the record's length, as a whole quotient and its remainder.
-- Assumes nothing.
use Rattle.std.specs.Prelude.{ℕ, ◌≡◌, ◌-◌, ◌*◌, ◌/◌, ◌%◌, ltb}
use Rattle.base.specs.Choice.{pick}
use Rattle.base.specs.declared.refusal.Refusal.TheVariants.{NotDone, EmptyRecord}
use Rattle.context.specs.Lists.{Lists}
use Rattle.stepper.specs.Stepper.{After, Called}
use Rattle.walk.specs.declared.Answer.{Answer}
use Rattle.walk.specs.declared.Answer.TheVariants.{Going, Accepted, Refused}
use Rattle.walk.specs.declared.Record.{Record}
use Rattle.tag.specs.declared.Tag.{Tag}
use Rattle.tag.specs.declared.Tag.TheVariants.{Percent, Refused as No-Tag}
use Rattle.tag.specs.declared.Tagged.{Tagged}

-- a record whose end does not lie above its start has no tag
unfoldable pub tag_of : Record → ℕ → Tag
tag_of r bytes =
    pick (ltb r.start r.end) (Percent (bytes * 100 / (r.end - r.start)) (bytes * 100 % (r.end - r.start))) (No-Tag EmptyRecord 0 0)

-- nor has a refused walk: its refusal is the answer
abbrev pub tag_by : Answer → ℕ → Tag
tag_by Going bytes = No-Tag NotDone 0 0
tag_by (Accepted r) bytes = tag_of r bytes
tag_by (Refused refusal a r) bytes = No-Tag refusal a r

-- the walk and the lists are those of the whole walk, and the tag is by its instruction bytes
pub record Tags (t : Tagged) (lists : Lists) (after : After) (bytes : ℕ) : Type 0 where
  pub called : Called t.answered lists after
  pub tag : t.tag ≡ tag_by after.answer bytes
