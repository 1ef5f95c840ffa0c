-- The whole walk leaves its instruction bytes in its state, so the tag is by them.
-- Assumes nothing.
use Rattle.base.proofs.Prelude.{◌∙◌, refl, ◌≡◌, ap, true, false, Bool, List, ℕ, suc, arith, length}
use Rattle.std.specs.Prelude.{Result, Ok, Err}
use Rattle.base.specs.declared.refusal.Refusal.{Refusal}
use Rattle.context.specs.declared.Module.{Module}
use Rattle.context.specs.Lists.{Lists}
use Rattle.invariants.specs.Bytes.{bytes_of}
use Rattle.invariants.proofs.BytesLaws.{steps-add}
use Rattle.stepper.specs.declared.Answered.{Answered}
use Rattle.stepper.specs.Stepper.{After, Called, is_going, begin, begin_where}
use Rattle.validity.specs.Validity.{begin_check}
use Rattle.walk.specs.declared.Counts.{Counts}
use Rattle.walk.specs.declared.Options.{Options}
use Rattle.walk.specs.declared.Walk.{Walk}
use Rattle.walk.specs.IntoFunction.{begun}
use Rattle.whole.specs.Whole.{run}
use Rattle.whole.proofs.WholeLaws.{opened, run-begin}
use Rattle.tag.specs.declared.Tag.{Tag}
use Rattle.tag.specs.Tag.{tag_by, Tags}

module _ (o : Options) (start : ℕ) (code starts : List ℕ) (n : Counts) (l : Lists) where
  begun-none : (opened o start code starts n l).walk.progress.instruction_bytes ≡ 0
  unfolding begin begun
  begun-none = step (begin_check o start (length code) starts)
    where
      step : (b : Result (Unit {0}) Refusal) → (begin_where start n l b).walk.progress.instruction_bytes ≡ 0
      step (Ok t) = refl
      step (Err refusal) = refl

  -- what a whole walk's state holds
  pub run-bytes : is_going (opened o start code starts n l).answer ≡ true
      → (run o code starts start n l).walk.progress.instruction_bytes ≡ bytes_of o code starts start n l
  unfolding run
  run-bytes going =
      rw going (let none = begun-none in let sum = steps-add o code starts (suc (length code)) (opened o start code starts n l) in omega arith)

  -- a refused begin has no tag, whatever is counted
  begin-tag : is_going (opened o start code starts n l).answer ≡ false → (x y : ℕ)
      → tag_by (opened o start code starts n l).answer x ≡ tag_by (opened o start code starts n l).answer y
  unfolding begin
  begin-tag off x y = step (begin_check o start (length code) starts) off
    where
      step : (b : Result (Unit {0}) Refusal) → is_going (begin_where start n l b).answer ≡ false
          → tag_by (begin_where start n l b).answer x ≡ tag_by (begin_where start n l b).answer y
      step (Ok t) e = absurd (let z : ◌≡◌ {A = ℕ} 0 1 = cc in omega arith)
      step (Err refusal) e = refl

  abbrev pub whole : After
  whole = run o code starts start n l

  -- the tag by the state's sum is that by the steps'
  pub run-tag : tag_by whole.answer whole.walk.progress.instruction_bytes ≡ tag_by whole.answer (bytes_of o code starts start n l)
  run-tag = step (is_going (opened o start code starts n l).answer) refl
    where
      step : (b : Bool) → is_going (opened o start code starts n l).answer ≡ b
          → tag_by whole.answer whole.walk.progress.instruction_bytes ≡ tag_by whole.answer (bytes_of o code starts start n l)
      step true e = ap (tag_by whole.answer) (run-bytes e)
      step false e = rw (run-begin o start code starts n l e) (begin-tag e _ _)

module _ (given : Module) (start : ℕ) (n : Counts) (l m : Lists) (a : Answered) where
  abbrev after : After
  after = run given.options given.code.now given.starts.now start n l

  pub tags-run : Called a m after → {x : Tag} → x ≡ tag_by a.answer a.walk.progress.instruction_bytes
      → Tags (record { answered = a; tag = x }) m after (bytes_of given.options given.code.now given.starts.now start n l)
  tags-run called is = record {
    called = called;
    tag =
        is
        ∙ rw (called.answers, ap (λ (w : Walk). w.progress.instruction_bytes) called.walks)
        (run-tag given.options start given.code.now given.starts.now n l);
  }
