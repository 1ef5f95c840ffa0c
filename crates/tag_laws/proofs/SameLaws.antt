-- Two codes give the same tag, under the hypotheses of the theorem about runs: it is one of what their whole walks answer and hold.
-- Assumes nothing.
use Rattle.base.proofs.Prelude.{◌∙◌, sym, ◌≡◌, ap, true, false, List, [], ◌∷◌, ◌≤◌, ℕ, suc, zero, arith, length, le_of_suc-le-suc, not-suc-le-zero}
use Rattle.context.specs.Lists.{Lists}
use Rattle.invariants.specs.Turns.{steps_from}
use Rattle.invariants.proofs.CheckLaws.{Begins, begins-number}
use Rattle.invariants.proofs.StepLaws.{steps-ended}
use Rattle.stability.specs.Runs.{Action, steps, finishes, run_from, run as run_by, Same, SameRuns, done, more}
use Rattle.stability.proofs.LongerLaws.{begins-longer}
use Rattle.stability.proofs.ReachLaws.{run-reaches}
use Rattle.stability.proofs.StableLaws.{stable}
use Rattle.stepper.specs.Stepper.{After, is_going, step, begin, finish}
use Rattle.tag.specs.Tag.{tag_by}
use Rattle.tag.proofs.TagLaws.{run-tag}
use Rattle.tag_laws.specs.Claims.{SameTags, tag}
use Rattle.walk.specs.declared.Answer.{Answer}
use Rattle.walk.specs.declared.Counts.{Counts}
use Rattle.walk.specs.declared.Options.{Options}
use Rattle.walk.specs.declared.Walk.{Walk}
use Rattle.whole.specs.Whole.{run, finished}
use Rattle.whole.proofs.WholeLaws.{opened, run-whole, last-ended}

-- n steps, and a finish
whole_actions : ℕ → List Action
whole_actions zero = finishes ∷ []
whole_actions (suc n) = steps ∷ whole_actions n

module _ (o : Options) (starts c d : List ℕ) where
  -- they come to the same where the runs do
  last-same : (n : ℕ) (x y : After) → SameRuns c d o.base (run_from o c starts x (whole_actions n)) (run_from o d starts y (whole_actions n))
      → Same c d o.base (finished (steps_from o c starts n x)) (finished (steps_from o d starts n y))
  unfolding run_from steps_from whole_actions
  last-same zero x y (more s (more t done)) = t
  last-same (suc n) x y (more s k) = last-same n (step o c starts x.walk x.lists) (step o d starts y.walk y.lists) k

module _ (o : Options) (code starts : List ℕ) where
  -- more steps than a walk has change nothing
  steps-stay : (n m : ℕ) (s : After) → n ≤ m → is_going (steps_from o code starts n s).walk.result ≡ false
      → (steps_from o code starts m s).walk ≡ (steps_from o code starts n s).walk
  unfolding steps_from
  steps-stay zero m s h off = (steps-ended o code starts m s off).0
  steps-stay (suc n) zero s h off = absurd (not-suc-le-zero h)
  steps-stay (suc n) (suc m) s h off = steps-stay n m (step o code starts s.walk s.lists) (le_of_suc-le-suc h) off

  module _ (start : ℕ) (n : Counts) (l : Lists) (begins : Begins o start code starts) where
    -- a begin that passes goes on
    going : is_going (opened o start code starts n l).answer ≡ true
    unfolding begin
    going = rw (begins-number o start code starts begins)

    abbrev after : ℕ → After
    after k = steps_from o code starts k (opened o start code starts n l)

    run-steps : run o code starts start n l ≡ finished (after (suc (length code)))
    unfolding run
    run-steps = rw going

    over : is_going (after (suc (length code))).walk.result ≡ false
    over =
        ap (λ (x : After). is_going x.walk.result) (sym run-steps ∙ run-whole o start code starts n l going)
        ∙ last-ended o start code starts n l

    -- the tag, by any number of steps that is enough
    tag-steps : (k : ℕ) → suc (length code) ≤ k
        → tag o code starts start n l ≡ tag_by (finish (after k).walk) (after k).walk.progress.instruction_bytes
    tag-steps k h =
        sym (run-tag o start code starts n l)
        ∙ ap (λ (x : After). tag_by x.answer x.walk.progress.instruction_bytes) run-steps
        ∙ ap (λ (w : Walk). tag_by (finish w) w.progress.instruction_bytes) (sym (steps-stay (suc (length code)) k (opened o start code starts n l) h over))

tagged : {a b : Answer} {x y : ℕ} → a ≡ b → x ≡ y → tag_by a x ≡ tag_by b y
tagged e f = rw (e, f)

pub same_tags : SameTags
unfolding run_by
same_tags o start starts c d longer fits n lent actions r answers agree n₁ n₂ l m long-l long-m =
    let reach = run-reaches o starts c r start n lent actions answers in
    let other = begins-longer o c d starts longer fits start reach.0 in
    let k = suc (length d) in
    let runs = (stable o start starts c d longer fits n lent actions r answers agree).same n₁ n₂ l m long-l long-m (whole_actions k) in
    let same = last-same o starts c d k (begin o start c starts n₁ l) (begin o start d starts n₂ m) runs in
    tag-steps o c starts start n₁ l reach.0 k (omega arith)
    ∙ tagged same.answers same.bytes
    ∙ sym (tag-steps o d starts start n₂ m other k (omega arith))
