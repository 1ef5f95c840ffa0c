-- The state's sum of instruction bytes, call by call.
-- Assumes nothing.
use Rattle.base.proofs.Prelude.{◌∙◌, refl, ◌≡◌, ap, true, false, Bool, List, [], ◌∷◌, map, ◌≤◌, ℕ, ◌+◌, arith, length, le-leb}
use Rattle.std.specs.Prelude.{Result, Ok, Err}
use Rattle.base.specs.Choice.{pick}
use Rattle.base.specs.declared.refusal.Refusal.{Refusal}
use Rattle.context.specs.Lists.{Lists, maps_in, given_by}
use Rattle.context.specs.Turn.{turn}
use Rattle.invariants.specs.Bytes.{is_data, bytes_by, bytes_to}
use Rattle.invariants.proofs.BytesLaws.{turn-bytes, step-adds, step-within}
use Rattle.stability.specs.Runs.{Action, steps, finishes, after_action, run_from, run}
use Rattle.stability.specs.Sums.{sums_from, sum_of, Sums, RefusedAddsNothing, Each, none, more, NeverAbove, EndsThere}
use Rattle.stability.proofs.ReachLaws.{Honest, finish-honest, step-honest, begin-honest}
use Rattle.stepper.specs.Stepper.{After, is_going, begin, begin_where, check_at, step, step_where, unchanged}
use Rattle.validity.specs.Validity.{are_bytes, begin_check}
use Rattle.walk.specs.declared.Answer.TheVariants.{Refused}
use Rattle.walk.specs.declared.Counts.{Counts}
use Rattle.walk.specs.declared.Options.{Options}
use Rattle.walk.specs.declared.Walk.{Walk}
use Rattle.walk.specs.IntoFunction.{begun}

joined : {x y : ℕ} {xs ys : List ℕ} → x ≡ y → xs ≡ ys → (x ∷ xs) ≡ (y ∷ ys)
joined e f = rw (e, f)

-- the sum so far
module _ (o : Options) (code starts : List ℕ) where
  sums : (ks : List Action) (x : After) (sum : ℕ) → sum_of x ≡ sum → map sum_of (run_from o code starts x ks) ≡ sums_from o code starts sum x ks
  unfolding run_from sums_from
  sums [] x sum e = ap (λ (n : ℕ). n ∷ []) e
  sums (steps ∷ ks) x sum e =
      let next = step o code starts x.walk x.lists in
      let one : sum_of next ≡ sum + bytes_to x.walk.progress.address (maps_in x.walk.counts x.lists) next.walk =
      step-adds o code starts x.walk x.lists ∙ ap (λ (n : ℕ). n + bytes_to x.walk.progress.address (maps_in x.walk.counts x.lists) next.walk) e in
      joined e (sums ks next _ one)
  sums (finishes ∷ ks) x sum e =
      joined e (sums ks (after_action o code starts finishes x) (sum + 0) (omega (arith, e)))

-- from a begin, refused or not
module _ (start : ℕ) (n : Counts) (l : Lists) where
  -- what holds of a walk at its start holds behind a begin
  begins : (P : Walk → Type 0) → ((m : Counts) → P (begun start m)) → (b : Result (Unit {0}) Refusal) → P (begin_where start n l b).walk
  begins P p (Ok t) = p _
  begins P p (Err refusal) = p n

pub run-sums : Sums
unfolding run begin begun
run-sums o start code starts n l ks = sums o code starts ks (begin o start code starts n l) 0 zero_sum
  where
    zero_sum : sum_of (begin o start code starts n l) ≡ 0
    zero_sum = begins start n l (λ w. w.progress.instruction_bytes ≡ 0) (λ m. refl) (begin_check o start (length code) starts)

none-by : (skips : Bool) → bytes_by skips 0 ≡ 0
none-by true = refl
none-by false = refl

pub refused-adds-nothing : RefusedAddsNothing
unfolding step bytes_to
refused-adds-nothing o code starts w l refusal a r e = go (is_going w.result) (check_at o code starts w l) e
  where
    after : Bool → Result (Unit {0}) Refusal → After
    after g c = pick g (step_where o code starts w l c) (unchanged w l w.result)

    data_here : Bool
    data_here = is_data w.progress.address (maps_in w.counts l).pools (maps_in w.counts l).inline_tables

    refused-none : (w' : Walk) → w'.result ≡ Refused refusal a r → bytes_to w.progress.address (maps_in w.counts l) w' ≡ 0
    refused-none w' e = rw e (none-by data_here)

    go : (g : Bool) (c : Result (Unit {0}) Refusal) → (after g c).answer ≡ Refused refusal a r → sum_of (after g c) ≡ w.progress.instruction_bytes
    go true (Ok t) h =
        let next = turn (given_by o code starts l) w (maps_in w.counts l) in
        let one = turn-bytes (given_by o code starts l) w (maps_in w.counts l) in
        let two = refused-none next.walk h in
        omega arith
    go true (Err n) h = refl
    go false c h = refl

-- ---- each call

module _ (o : Options) (code starts : List ℕ) (P : After → Type 0) (kept : (k : Action) (x : After) → P x → P (after_action o code starts k x)) where
  each : (ks : List Action) (x : After) → P x → Each P (run_from o code starts x ks)
  unfolding run_from
  each [] x p = more p none
  each (k ∷ ks) x p = more p (each ks (after_action o code starts k x) (kept k x p))

weaken : {P Q : After → Type 0} {xs : List After} → ((x : After) → P x → Q x) → Each P xs → Each Q xs
weaken f none = none
weaken f (more {x} p ps) = more (f x p) (weaken f ps)

abbrev Below : Walk → Type 0
Below w = w.progress.start + w.progress.instruction_bytes ≤ w.progress.address

pub never-above : NeverAbove
unfolding run begin begun are_bytes
never-above o start code starts n l ks = weaken told (each o code starts (λ x. Below x.walk) kept ks (begin o start code starts n l) first)
  where
    told : (x : After) → Below x.walk → are_bytes x.walk.progress ≡ true
    told x h = le-leb (x.walk.progress.start + x.walk.progress.instruction_bytes) x.walk.progress.address h

    kept : (k : Action) (x : After) → Below x.walk → Below (after_action o code starts k x).walk
    kept steps x h = step-within o code starts x.walk x.lists h
    kept finishes x h = h

    first : Below (begin o start code starts n l).walk
    first = begins start n l Below (λ m. omega arith) (begin_check o start (length code) starts)

pub ends-there : EndsThere
unfolding run
ends-there o start code starts n l ks r =
    weaken (λ x h e. h.ends (h.says e)) (each o code starts (Honest o starts code r) kept ks (begin o start code starts n l) (begin-honest o starts code r start n l))
  where
    kept : (k : Action) (x : After) → Honest o starts code r x → Honest o starts code r (after_action o code starts k x)
    kept steps x h = step-honest o starts code r x.walk x.lists h.ends
    kept finishes x h = finish-honest o starts code r x h
