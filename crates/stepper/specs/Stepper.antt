-- Document 01: begin, step and finish: what each answers, and the walk and the lists that begin and step leave.
-- Assumes nothing.
use Rattle.std.specs.Prelude.{◌≡◌, Result, Ok, Err, Bool, true, false, List, ℕ, length}
use Rattle.base.specs.Choice.{pick}
use Rattle.base.specs.declared.refusal.Refusal.{Refusal}
use Rattle.base.specs.declared.refusal.Refusal.TheVariants.{NotDone}
use Rattle.context.specs.Lists.{Lists, maps_in, written, zeroed, given_by}
use Rattle.context.specs.Turn.{Turned, turn, no_maps, counts_of}
use Rattle.validity.specs.Validity.{begin_check, step_check}
use Rattle.walk.specs.declared.Answer.{Answer}
use Rattle.walk.specs.declared.Answer.TheVariants.{Going, Accepted, Refused}
use Rattle.walk.specs.declared.Counts.{Counts}
use Rattle.walk.specs.declared.Options.{Options}
use Rattle.walk.specs.declared.Walk.{Walk}
use Rattle.walk.specs.IntoFunction.{begun}
use Rattle.stepper.specs.declared.Answered.{Answered}

-- what stands after a call
pub record After : Type 0 where
  pub walk : Walk
  pub lists : Lists
  pub answer : Answer

-- a call gave these
pub record Called (r : Answered) (lists : Lists) (after : After) : Type 0 where
  pub walks : r.walk ≡ after.walk
  pub answers : r.answer ≡ after.answer
  pub holds : lists ≡ after.lists

abbrev pub is_going : Answer → Bool
is_going Going = true
is_going (Accepted r) = false
is_going (Refused refusal a r) = false

-- a refusal whose address is 0
abbrev pub refused : Refusal → Answer
refused refusal = Refused refusal 0 0

-- a begin that passes 1 to 4 zeroes the lists; a refused one changes none, and hands back a walk before its end
abbrev pub begin_where : ℕ → Counts → Lists → Result (Unit {0}) Refusal → After
begin_where start n l (Ok t) = record { walk = begun start (counts_of no_maps); lists = zeroed l; answer = Going }
begin_where start n l (Err refusal) = record { walk = begun start n; lists = l; answer = refused refusal }

unfoldable pub begin : Options → ℕ → List ℕ → List ℕ → Counts → Lists → After
begin o start code starts n l = begin_where start n l (begin_check o start (length code) starts)

-- a turn's maps in the lists
abbrev pub turned : Lists → Turned → After
turned l t = record { walk = t.walk; lists = written l t.maps; answer = t.walk.result }

-- a call that changes nothing
abbrev pub unchanged : Walk → Lists → Answer → After
unchanged w l answer = record { walk = w; lists = l; answer = answer }

module _ (o : Options) (code starts : List ℕ) where
  -- 1 to 4 anew
  abbrev pub check_at : Walk → Lists → Result (Unit {0}) Refusal
  check_at w l = step_check o (length code) starts w l

  -- after the end a step checks and changes nothing; a step that is refused by 1 to 4 changes nothing either
  abbrev pub step_where : Walk → Lists → Result (Unit {0}) Refusal → After
  step_where w l (Ok t) = turned l (turn (given_by o code starts l) w (maps_in w.counts l))
  step_where w l (Err refusal) = unchanged w l (refused refusal)

  unfoldable pub step : Walk → Lists → After
  step w l = pick (is_going w.result) (step_where w l (check_at w l)) (unchanged w l w.result)

-- finishing checks and changes nothing
unfoldable pub finish : Walk → Answer
finish w = pick (is_going w.result) (refused NotDone) w.result
