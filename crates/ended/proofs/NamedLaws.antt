-- A refusal of begin, step and finish has a name, where those that the walk holds have one, and then so have those of the walk that is left; and
-- so has each of a whole walk.
-- Assumes nothing.
use Rattle.base.proofs.Prelude.{refl, ◌≡◌, true, false, Bool, List, ℕ, suc, zero, length}
use Rattle.std.specs.Prelude.{Result, Ok, Err}
use Rattle.base.specs.Choice.{pick}
use Rattle.base.specs.declared.refusal.Refusal.{Refusal}
use Rattle.base.specs.declared.refusal.Refusal.TheVariants.{NotDone}
use Rattle.base.specs.Refusals.{is_named}
use Rattle.context.specs.Lists.{Lists, maps_in, given_by}
use Rattle.context.specs.Turn.{Turned, turn}
use Rattle.invariants.specs.Turns.{steps_from}
use Rattle.stepper.specs.Stepper.{After, is_going, begin, begin_where, step, step_where, unchanged, finish}
use Rattle.validity.specs.Validity.{begin_check, step_check}
use Rattle.validity.proofs.EarlyLaws.{IsEarly, begin-early, step-early}
use Rattle.walk.specs.declared.Answer.{Answer}
use Rattle.walk.specs.declared.Answer.TheVariants.{Going, Accepted, Refused}
use Rattle.walk.specs.declared.Counts.{Counts}
use Rattle.walk.specs.declared.Options.{Options}
use Rattle.walk.specs.declared.Walk.{Walk}
use Rattle.walk.specs.IntoFunction.{begun}
use Rattle.whole.specs.Whole.{run, finished}
use Rattle.ended.proofs.CodeLaws.{CodeNamed, turn-code}
use Rattle.ended.proofs.EndedLaws.{Over, turn-over}

abbrev pub AnswerNamed : Answer → Type 0
AnswerNamed Going = Unit {0}
AnswerNamed (Accepted r) = Unit {0}
AnswerNamed (Refused refusal address register) = is_named refusal ≡ true

-- the refusals that a walk holds: its result's, and the reason of its machine of illegal code
abbrev pub WalkNamed : Walk → Type 0
WalkNamed w = AnswerNamed w.result × CodeNamed w.machines.illegal_code

abbrev pub AfterNamed : After → Type 0
AfterNamed after = AnswerNamed after.answer × WalkNamed after.walk

over : (a : Answer) (t : Turned) → Over a t → AnswerNamed a
over Going t h = tt
over (Accepted r) t h = tt
over (Refused refusal address register) t h = h.named

pub begin-named : (o : Options) (start : ℕ) (code starts : List ℕ) (n : Counts) (l : Lists) → AfterNamed (begin o start code starts n l)
unfolding begin begun
begin-named o start code starts n l = go (begin_check o start (length code) starts) (begin-early o start (length code) starts)
  where
    go : (b : Result (Unit {0}) Refusal) → IsEarly b → AfterNamed (begin_where start n l b)
    go (Ok t) h = (tt, (tt, tt))
    go (Err refusal) h = (h.0, (tt, tt))

module _ (o : Options) (code starts : List ℕ) (w : Walk) (l : Lists) (h : WalkNamed w) where
  pub step-named : AfterNamed (step o code starts w l)
  unfolding step
  step-named = choose (is_going w.result)
    where
      t : Turned
      t = turn (given_by o code starts l) w (maps_in w.counts l)

      go : (b : Result (Unit {0}) Refusal) → IsEarly b → AfterNamed (step_where o code starts w l b)
      go (Ok u) e =
          let m = over t.walk.result t (turn-over (given_by o code starts l) w (maps_in w.counts l)) in
          (m, (m, turn-code (given_by o code starts l) w (maps_in w.counts l) h.1))
      go (Err refusal) e = (e.0, h)

      choose : (b : Bool) → AfterNamed (pick b (step_where o code starts w l (step_check o (length code) starts w l)) (unchanged w l w.result))
      choose true = go (step_check o (length code) starts w l) (step-early o (length code) starts w l)
      choose false = (h.0, h)

pub finish-named : (w : Walk) → AnswerNamed w.result → AnswerNamed (finish w)
unfolding finish
finish-named w h = choose (is_going w.result)
  where
    choose : (b : Bool) → AnswerNamed (pick b (Refused NotDone 0 0) w.result)
    choose true = refl
    choose false = h

module _ (o : Options) (code starts : List ℕ) where
  steps-named : (n : ℕ) (s : After) → AfterNamed s → AfterNamed (steps_from o code starts n s)
  unfolding steps_from
  steps-named zero s h = h
  steps-named (suc n) s h = steps-named n (step o code starts s.walk s.lists) (step-named o code starts s.walk s.lists h.1)

  pub run-named : (start : ℕ) (n : Counts) (l : Lists) → AfterNamed (run o code starts start n l)
  unfolding run
  run-named start n l = choose (is_going b.answer)
    where
      b : After
      b = begin o start code starts n l

      h : AfterNamed b
      h = begin-named o start code starts n l

      choose : (g : Bool) → AfterNamed (pick g (finished (steps_from o code starts (suc (length code)) b)) b)
      choose true =
          let left = (steps-named (suc (length code)) b h).1 in
          (finish-named (steps_from o code starts (suc (length code)) b).walk left.0, left)
      choose false = h
