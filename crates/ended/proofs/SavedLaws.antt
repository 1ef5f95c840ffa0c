-- A whole walk's record is from the requested start, and tells how many registers the instruction there saves.
-- Assumes nothing.
use Rattle.base.proofs.Prelude.{◌∙◌, sym, refl, ◌≡◌, ap, true, false, Bool, inl, List, ℕ, suc, arith, length}
use Rattle.std.specs.Prelude.{Result, Ok, Err}
use Rattle.base.specs.declared.refusal.Refusal.{Refusal}
use Rattle.context.specs.Blocks.{saved_at}
use Rattle.context.specs.Lists.{Lists, zeroed, given_by}
use Rattle.invariants.specs.Saved.{Tells}
use Rattle.invariants.proofs.SavedLaws.{turns-tell}
use Rattle.stepper.specs.Stepper.{After, is_going, begin, begin_where}
use Rattle.validity.specs.Validity.{begin_check}
use Rattle.walk.specs.declared.Answer.TheVariants.{Accepted}
use Rattle.walk.specs.declared.Counts.{Counts}
use Rattle.walk.specs.declared.Options.{Options}
use Rattle.walk.specs.declared.Record.{Record}
use Rattle.walk.specs.IntoFunction.{begun}
use Rattle.whole.specs.Whole.{run}
use Rattle.whole.proofs.WholeLaws.{opened, first, last, run-whole, run-begin}

module _ (o : Options) (start : ℕ) (code starts : List ℕ) (n : Counts) (l : Lists) (r : Record) where
  -- a begin has no record
  begin-none : (b : Result (Unit {0}) Refusal) → (begin_where start n l b).answer ≡ Accepted r → ⊥
  begin-none (Ok t) e = let z : ◌≡◌ {A = ℕ} 0 1 = cc in omega arith
  begin-none (Err refusal) e = let z : ◌≡◌ {A = ℕ} 0 1 = cc in omega arith

  whole-tells : (last o start code starts n l).walk.result ≡ Accepted r → Tells start (saved_at code o.base start) r
  unfolding begun
  whole-tells e =
      turns-tell (given_by o code starts (zeroed l)) start (suc (length code)) (first o start code starts n l) r refl
      (record { starts = refl; knows = inl refl }) e

  pub run-tells : (run o code starts start n l).answer ≡ Accepted r → Tells start (saved_at code o.base start) r
  unfolding begin
  run-tells e = step (is_going (opened o start code starts n l).answer) refl
    where
      step : (b : Bool) → is_going (opened o start code starts n l).answer ≡ b → Tells start (saved_at code o.base start) r
      step true h = whole-tells (ap (λ (a : After). a.answer) (sym (run-whole o start code starts n l h)) ∙ e)
      step false h =
          absurd (begin-none (begin_check o start (length code) starts) (ap (λ (a : After). a.answer) (sym (run-begin o start code starts n l h)) ∙ e))
