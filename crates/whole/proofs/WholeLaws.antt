-- The whole walk by its turns: one more than the code has bytes, from no entries.
-- Assumes nothing.
use Rattle.base.proofs.Prelude.{◌∙◌, sym, refl, ◌≡◌, ap, subst⁻¹, true, false, List, ℕ, ◌+◌, ◌≤◌, suc, arith, length}
use Rattle.std.specs.Prelude.{Result, Ok, Err}
use Rattle.base.specs.declared.refusal.Refusal.{Refusal}
use Rattle.context.specs.declared.Module.{Module}
use Rattle.context.specs.Lists.{Lists, AllHeld, Sound, written, zeroed, given_by, given_to}
use Rattle.context.specs.Turn.{Turned, no_maps, counts_of}
use Rattle.invariants.specs.Turns.{turns_from, steps_from}
use Rattle.invariants.proofs.CheckLaws.{number-begins, passed-number}
use Rattle.invariants.proofs.KeptLaws.{begun-passed}
use Rattle.invariants.proofs.EndingLaws.{has_ended}
use Rattle.invariants.proofs.StepLaws.{steps-turn}
use Rattle.rows.specs.Map.{map_in}
use Rattle.stepper.specs.declared.Answered.{Answered}
use Rattle.stepper.specs.Stepper.{After, Called, is_going, begin, begin_where, turned, check_at, finish}
use Rattle.stepper.proofs.Laws.{called-turned, turn-may}
use Rattle.turn.specs.Turning.{Turns}
use Rattle.validity.specs.Validity.{begin_check}
use Rattle.walk.specs.declared.Answer.TheVariants.{Going}
use Rattle.walk.specs.declared.Counts.{Counts}
use Rattle.walk.specs.declared.Options.{Options}
use Rattle.walk.specs.declared.Walk.{Walk}
use Rattle.walk.specs.IntoFunction.{begun}
use Rattle.whole.specs.Whole.{on_from, run}
use Rattle.whole.proofs.OnLaws.{held}

finish-ended : (w : Walk) → is_going w.result ≡ false → finish w ≡ w.result
unfolding finish
finish-ended w e = rw e

module _ (o : Options) (start : ℕ) (code starts : List ℕ) (n : Counts) (l : Lists) where
  abbrev pub opened : After
  opened = begin o start code starts n l

  abbrev pub fresh : After
  fresh = record { walk = begun start (counts_of no_maps); lists = zeroed l; answer = Going }

  -- a walk that has begun, and one turn more from there than the code has bytes
  abbrev pub first : Turned
  first = record { walk = begun start (counts_of no_maps); maps = no_maps }

  abbrev pub last : Turned
  last = turns_from (given_by o code starts (zeroed l)) (suc (length code)) first

  pub first-going : is_going first.walk.result ≡ true
  unfolding begun
  first-going = refl

  first-held : held (begun start (counts_of no_maps)) (zeroed l) ≡ first
  unfolding begun map_in
  first-held = refl

  pub last-ended : is_going last.walk.result ≡ false
  last-ended = has_ended (given_by o code starts (zeroed l)) first

  pub run-begin : is_going opened.answer ≡ false → run o code starts start n l ≡ opened
  unfolding run
  run-begin off = rw off

  module _ (on : is_going opened.answer ≡ true) where
    -- a begin that goes on has passed
    passed-begin : begin_check o start (length code) starts ≡ Ok tt
    unfolding begin
    passed-begin = step (begin_check o start (length code) starts) refl on
      where
        step : (b : Result (Unit {0}) Refusal) → begin_check o start (length code) starts ≡ b → is_going (begin_where start n l b).answer ≡ true
            → begin_check o start (length code) starts ≡ Ok tt
        step (Ok t) h k = h
        step (Err refusal) h k = absurd (let z : ◌≡◌ {A = ℕ} 0 1 = cc in omega arith)

    pub opened-fresh : opened ≡ fresh
    unfolding begin
    opened-fresh = rw passed-begin

    pub fresh-number : check_at o code starts fresh.walk fresh.lists ≡ Ok tt
    fresh-number =
        passed-number o code starts fresh.walk fresh.lists
        (begun-passed o start code starts l (number-begins o start code starts passed-begin))

    pub run-whole : run o code starts start n l ≡ turned (zeroed l) last
    unfolding run
    run-whole =
        let steps = steps-turn o code starts (suc (length code)) fresh first-going fresh-number in
        let turns = ap (turns_from (given_by o code starts (zeroed l)) (suc (length code))) first-held in
        let walks : (steps_from o code starts (suc (length code)) fresh).walk ≡ last.walk = steps.walk ∙ ap (λ (t : Turned). t.walk) turns in
        let holds : (steps_from o code starts (suc (length code)) fresh).lists ≡ written (zeroed l) last.maps =
        steps.lists ∙ ap (λ (t : Turned). written (zeroed l) t.maps) turns in
        ap (on_from o code starts) opened-fresh ∙ rw (walks, holds, finish-ended last.walk last-ended)

-- ---- the code's calls, one by one

module _ (given : Module) (start : ℕ) (n : Counts) (l : Lists) (b : Answered) (m : Lists) where
  abbrev o : Options
  o = given.options

  abbrev code : List ℕ
  code = given.code.now

  abbrev starts : List ℕ
  starts = given.starts.now

  module _ (opens : Called b m (opened o start code starts n l)) where
    pub run-refused : is_going b.answer ≡ false → Called b m (run o code starts start n l)
    run-refused off = subst⁻¹ (Called b m) (run-begin o start code starts n l (ap is_going (sym opens.answers) ∙ off)) opens

    module _ (going : is_going b.answer ≡ true) where
      pub on : is_going (opened o start code starts n l).answer ≡ true
      on = ap is_going (sym opens.answers) ∙ going

      begins : opened o start code starts n l ≡ fresh o start code starts n l
      begins = opened-fresh o start code starts n l on

      pub walks : b.walk ≡ begun start (counts_of no_maps)
      walks = opens.walks ∙ ap (λ (x : After). x.walk) begins

      pub holds : m ≡ zeroed l
      holds = opens.holds ∙ ap (λ (x : After). x.lists) begins

      -- what a turn asks for
      pub run-may : Sound given × AllHeld b.walk.counts m × (b.walk.progress.start + b.walk.progress.instruction_bytes ≤ b.walk.progress.address)
      run-may = rw (walks, holds) (turn-may given (begun start (counts_of no_maps)) (zeroed l) (fresh-number o start code starts n l on))

      pub run_on : (w : Walk) (k : Lists) → Turns w m k (turns_from (given_to given m) (suc (length code)) (held b.walk m))
          → Called (record { walk = w; answer = w.result }) k (run o code starts start n l)
      run_on w k t =
          subst⁻¹ (Called (record { walk = w; answer = w.result }) k) (run-whole o start code starts n l on)
          (rw (walks, holds, first-held o start code starts n l) at (called-turned t))
