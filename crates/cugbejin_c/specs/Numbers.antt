-- The whole walk in numbers alone: the options that a host's numbers stand for, the thirteen numbers of an answer, and the two of a tag.
-- Assumes nothing.
use Rattle.std.specs.Prelude.{ℕ, ◌≡◌, not, List, [], ◌∷◌, eqb}
use Rattle.answers.specs.Answers.{number_of, address_of, register_of}
use Rattle.base.specs.Choice.{pick}
use Rattle.base.specs.Refusals.{refusal_no}
use Rattle.context.specs.Lists.{Lists}
use Rattle.stepper.specs.Stepper.{After}
use Rattle.walk.specs.declared.Answer.{Answer}
use Rattle.walk.specs.declared.Answer.TheVariants.{Going, Accepted, Refused}
use Rattle.walk.specs.declared.Counts.{Counts}
use Rattle.std.specs.Prelude.{Option, Some, None}
use Rattle.walk.specs.declared.Options.{Options}
use Rattle.walk.specs.declared.Record.{Record}
use Rattle.tag.specs.Tag.{tag_by}
use Rattle.tag.specs.declared.Tag.{Tag}
use Rattle.tag.specs.declared.Tag.TheVariants.{Percent, Refused as No-Tag}

-- no known end where `known` is 0
abbrev pub known_from : ℕ → ℕ → Option ℕ
known_from known end = pick (eqb known 0) None (Some end)

abbrev pub options_from : ℕ → ℕ → ℕ → ℕ → ℕ → ℕ → Options
options_from base start end known known_end check = record {
  base = base;
  module_start = start;
  module_end = end;
  known_end = known_from known known_end;
  check = not (eqb check 0);
}

-- zeros where there is no record
abbrev pub no_record : Record
no_record = record { start = 0; end = 0; first_instruction = 0; last_instruction_end = 0; saved_registers = 0 }

abbrev pub record_of : Answer → Record
record_of Going = no_record
record_of (Accepted r) = r
record_of (Refused number address register) = no_record

abbrev pub numbers_of : Answer → Counts → List ℕ
numbers_of a n =
    number_of a ∷ address_of a ∷ register_of a
    ∷ (record_of a).start ∷ (record_of a).end ∷ (record_of a).first_instruction ∷ (record_of a).last_instruction_end ∷ (record_of a).saved_registers
    ∷ n.labels ∷ n.pools ∷ n.jump_tables ∷ n.inline_tables ∷ n.calls ∷ []

abbrev pub answer_numbers : After → List ℕ
answer_numbers a = numbers_of a.answer a.walk.counts

-- the number of a tag that is refused, 0 for none
abbrev pub tag_number : Tag → ℕ
tag_number (Percent quotient remainder) = 0
tag_number (No-Tag refusal address register) = refusal_no refusal

-- zeros where there is no tag
abbrev pub tag_numbers : Tag → List ℕ
tag_numbers (Percent quotient remainder) = quotient ∷ remainder ∷ []
tag_numbers (No-Tag refusal address register) = 0 ∷ 0 ∷ []

-- a call left these in the answer and in the lists
pub record LeftIn (answer : List ℕ) (lists : Lists) (after : After) : Type 0 where
  pub tells : answer ≡ answer_numbers after
  pub holds : lists ≡ after.lists

-- and returned the number
pub record AnsweredIn (number : ℕ) (answer : List ℕ) (lists : Lists) (after : After) : Type 0 where
  pub returns : number ≡ number_of after.answer
  pub leaves : LeftIn answer lists after

-- a call with a tag, by the walk's instruction bytes
pub record TaggedIn (number : ℕ) (answer percent : List ℕ) (lists : Lists) (after : After) (bytes : ℕ) : Type 0 where
  pub returns : number ≡ tag_number (tag_by after.answer bytes)
  pub percents : percent ≡ tag_numbers (tag_by after.answer bytes)
  pub leaves : LeftIn answer lists after
