-- The sum of instruction bytes that the walk's state holds, over runs: what a second walk would have counted so far.
-- Assumes nothing.
use Rattle.std.specs.Prelude.{◌≡◌, true, List, [], ◌∷◌, map, ℕ, ◌+◌}
use Rattle.base.specs.declared.refusal.Refusal.{Refusal}
use Rattle.context.specs.Lists.{Lists}
use Rattle.invariants.specs.Bytes.{step_bytes}
use Rattle.stability.specs.Runs.{Action, steps, finishes, after_action, run}
use Rattle.stepper.specs.Stepper.{After, begin, step}
use Rattle.validity.specs.Validity.{are_bytes}
use Rattle.walk.specs.declared.Answer.TheVariants.{Accepted, Refused}
use Rattle.walk.specs.declared.Counts.{Counts}
use Rattle.walk.specs.declared.Options.{Options}
use Rattle.walk.specs.declared.Record.{Record}
use Rattle.walk.specs.declared.Walk.{Walk}

module _ (o : Options) (code starts : List ℕ) where
  abbrev pub action_bytes : Action → After → ℕ
  action_bytes steps x = step_bytes o code starts x.walk x.lists
  action_bytes finishes x = 0

  -- the second walk's sum after each call
  unfoldable pub sums_from : ℕ → After → List Action → List ℕ
  sums_from sum x [] = sum ∷ []
  sums_from sum x (k ∷ ks) = sum ∷ sums_from (sum + action_bytes k x) (after_action o code starts k x) ks

-- the state's sum
abbrev pub sum_of : After → ℕ
sum_of x = x.walk.progress.instruction_bytes

-- after each call of a run, refused ones included, the state's sum is the second walk's
abbrev pub Sums : Type 0
Sums =
    (o : Options) (start : ℕ) (code starts : List ℕ) (n : Counts) (l : Lists) (actions : List Action)
    → map sum_of (run o code starts start n l actions) ≡ sums_from o code starts 0 (begin o start code starts n l) actions

-- a step that is refused adds nothing, whatever walk and lists a host hands in
abbrev pub RefusedAddsNothing : Type 0
RefusedAddsNothing =
    (o : Options) (code starts : List ℕ) (w : Walk) (l : Lists) (refusal : Refusal) (address register : ℕ)
    → (step o code starts w l).answer ≡ Refused refusal address register
    → sum_of (step o code starts w l) ≡ w.progress.instruction_bytes

-- each call
pub data Each (P : After → Type 0) : List After → Type 0 where
  none : Each P []
  more : {x : After} {xs : List After} → P x → Each P xs → Each P (x ∷ xs)

-- no call leaves a sum above the walk's address less the requested start, so a run's own states never meet that refusal
abbrev pub NeverAbove : Type 0
NeverAbove =
    (o : Options) (start : ℕ) (code starts : List ℕ) (n : Counts) (l : Lists) (actions : List Action)
    → Each (λ x. are_bytes x.walk.progress ≡ true) (run o code starts start n l actions)

-- the step that finds the end leaves the walk's address at the last instruction's end, and it stays there
abbrev pub EndsThere : Type 0
EndsThere =
    (o : Options) (start : ℕ) (code starts : List ℕ) (n : Counts) (l : Lists) (actions : List Action) (r : Record)
    → Each (λ x. x.answer ≡ Accepted r → x.walk.progress.address ≡ r.last_instruction_end) (run o code starts start n l actions)
