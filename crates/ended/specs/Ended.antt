-- What a whole walk comes to, by the counts and the lists that a host gave: a record, or a refusal.
-- Assumes nothing.
use Rattle.base.specs.Refusals.{refusal_no}
use Rattle.std.specs.Prelude.{ℕ, ◌≤◌, ◌≡◌, leb}
use Rattle.base.specs.Choice.{pick}
use Rattle.context.specs.Lists.{Lists, zeroed}
use Rattle.context.specs.Turn.{no_maps, counts_of}
use Rattle.stepper.specs.Stepper.{After}
use Rattle.walk.specs.declared.Answer.{Answer}
use Rattle.walk.specs.declared.Answer.TheVariants.{Going, Accepted, Refused}
use Rattle.walk.specs.declared.Counts.{Counts}

-- 1 to 4 hand back the counts and the lists as they were; 5 to 14 leave no entries, and every place zero
pub record Refusing (n : Counts) (l : Lists) (after : After) (number : ℕ) : Type 0 where
  pub least : 1 ≤ number
  pub most : number ≤ 14
  pub counted : after.walk.counts ≡ pick (leb number 4) n (counts_of no_maps)
  pub holds : after.lists ≡ pick (leb number 4) l (zeroed l)

abbrev pub EndedBy : Counts → Lists → After → Answer → Type 0
EndedBy n l after Going = ⊥
EndedBy n l after (Accepted r) = Unit {0}
EndedBy n l after (Refused refusal address register) = Refusing n l after (refusal_no refusal)

abbrev pub Ended : Counts → Lists → After → Type 0
Ended n l after = EndedBy n l after after.answer
