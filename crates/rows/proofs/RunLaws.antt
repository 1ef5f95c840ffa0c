-- The laws of the run of steps of 4, for any test for "is held".
-- Assumes nothing.
use Rattle.base.proofs.Prelude.{refl, ◌≡◌, false, true, Bool, ◌≤◌, ℕ, ◌+◌, ◌<◌, ◌-◌, suc, ◌*◌, zero, ◌^◌, arith, le_of_suc-le-suc, not-suc-le-zero}
use Rattle.base.proofs.Prelude.{ltb, lt-ltb, le-ltb, ltb-true, ltb-false}
use Rattle.base.specs.Choice.{choose}
use Rattle.rows.specs.Run.{gap_by, gap_from}
use Rattle.std.specs.Prelude.{Option, Some, None}

-- what is left of the run, from x on, still leads to g
pub record Going (test : ℕ → Bool) (g : Option ℕ) (x : ℕ) : Type 0 where
  pub fuel : ℕ
  pub enough : 2 ^ 32 - x ≤ fuel
  pub same : gap_by test fuel x ≡ g

pub going_start : (test : ℕ → Bool) (x : ℕ) → Going test (gap_from test x) x
unfolding gap_from
going_start test x = record { fuel = 2 ^ 32 - x; enough = omega arith; same = refl }

module _ {test : ℕ → Bool} {g : Option ℕ} {x : ℕ} (fits : x < 2 ^ 32) (going : Going test g x) where
  pub going_on : test x ≡ true → x + 4 < 2 ^ 32 → Going test g (x + 4)
  unfolding gap_by
  going_on t h = go going.fuel going.enough going.same
    where
      go : (f : ℕ) → 2 ^ 32 - x ≤ f → gap_by test f x ≡ g → Going test g (x + 4)
      go zero e s = absurd (omega arith)
      go (suc f) e s = record { fuel = f; enough = omega arith; same = rw (t, lt-ltb (x + 4) (2 ^ 32) h) at s }

  pub going-beyond : test x ≡ true → 2 ^ 32 ≤ x + 4 → None ≡ g
  unfolding gap_by
  going-beyond t h = go going.fuel going.enough going.same
    where
      go : (f : ℕ) → 2 ^ 32 - x ≤ f → gap_by test f x ≡ g → None ≡ g
      go zero e s = absurd (omega arith)
      go (suc f) e s = rw (t, le-ltb (x + 4) (2 ^ 32) h) at s

  pub going_end : test x ≡ false → Some x ≡ g
  unfolding gap_by
  going_end t = go going.fuel going.enough going.same
    where
      go : (f : ℕ) → 2 ^ 32 - x ≤ f → gap_by test f x ≡ g → Some x ≡ g
      go zero e s = absurd (omega arith)
      go (suc f) e s = rw t at s

-- ---- what the answer says

-- g is the first of x, x + 4, x + 8, .. that fails the test
pub record Gapped (test : ℕ → Bool) (x g : ℕ) : Type 0 where
  pub steps : ℕ
  pub is : g ≡ x + 4 * steps
  pub free : test g ≡ false
  pub before : (j : ℕ) → j < steps → test (x + 4 * j) ≡ true

module _ (test : ℕ → Bool) where
  gapped-more : (x g : ℕ) → test x ≡ true → Gapped test (x + 4) g → Gapped test x g
  gapped-more x g t next = record { steps = suc next.steps; is = omega (arith, next.is); free = next.free; before = λ j l. all j l }
    where
      all : (j : ℕ) → j < suc next.steps → test (x + 4 * j) ≡ true
      all zero l = let same : x ≡ x + 4 * zero = omega arith in rw (← same) t
      all (suc j) l =
          let same : x + 4 + 4 * j ≡ x + 4 * suc j = omega arith in
          rw same at (next.before j (le_of_suc-le-suc l))

  gapped-by : (f x g : ℕ) → gap_by test f x ≡ Some g → Gapped test x g
  unfolding gap_by
  gapped-by zero x g e = absurd (let z : ◌≡◌ {A = ℕ} 0 1 = cc in omega arith)
  gapped-by (suc f) x g e = step (test x) (ltb (x + 4) (2 ^ 32)) refl e (gapped-by f (x + 4) g)
    where
      step : (s t : Bool) → test x ≡ s → choose s (λ _. choose t (λ _. gap_by test f (x + 4)) (λ _. None)) (λ _. Some x) ≡ Some g
          → (gap_by test f (x + 4) ≡ Some g → Gapped test (x + 4) g) → Gapped test x g
      step true true u e more = gapped-more x g u (more e)
      step true false u e more = absurd (let z : ◌≡◌ {A = ℕ} 0 1 = cc in omega arith)
      step false t u e more =
          let same : x ≡ g = cc in
          record { steps = 0; is = omega arith; free = rw same at u; before = λ j l. absurd (not-suc-le-zero l) }

  pub gap_at : (x g : ℕ) → gap_from test x ≡ Some g → Gapped test x g
  unfolding gap_from
  gap_at x g e = gapped-by (2 ^ 32 - x) x g e

  none-by : (f x : ℕ) → x < 2 ^ 32 → 2 ^ 32 - x ≤ f → gap_by test f x ≡ None → (j : ℕ) → x + 4 * j < 2 ^ 32 → test (x + 4 * j) ≡ true
  unfolding gap_by
  none-by zero x h m e j l = absurd (omega arith)
  none-by (suc f) x h m e j l =
      step (test x) (ltb (x + 4) (2 ^ 32)) refl refl e (λ k. none-by f (x + 4) k (omega arith)) j l
    where
      step : (s t : Bool) → test x ≡ s → ltb (x + 4) (2 ^ 32) ≡ t → choose s (λ _. choose t (λ _. gap_by test f (x + 4)) (λ _. None)) (λ _. Some x) ≡ None
          → (x + 4 < 2 ^ 32 → gap_by test f (x + 4) ≡ None → (j : ℕ) → x + 4 + 4 * j < 2 ^ 32 → test (x + 4 + 4 * j) ≡ true)
          → (j : ℕ) → x + 4 * j < 2 ^ 32 → test (x + 4 * j) ≡ true
      step false t u v e more j l = absurd (let z : ◌≡◌ {A = ℕ} 0 1 = cc in omega arith)
      step true t u v e more zero l = let same : x ≡ x + 4 * zero = omega arith in rw (← same) u
      step true true u v e more (suc j) l =
          let same : x + 4 + 4 * j ≡ x + 4 * suc j = omega arith in
          rw same at (more (ltb-true _ _ v) e j (omega arith))
      step true false u v e more (suc j) l =
          let high : 2 ^ 32 ≤ x + 4 = ltb-false _ _ v in
          absurd (omega arith)

  -- every address of the run that fits 32 bits is held
  pub gap-none : (x : ℕ) → x < 2 ^ 32 → gap_from test x ≡ None → (j : ℕ) → x + 4 * j < 2 ^ 32 → test (x + 4 * j) ≡ true
  unfolding gap_from
  gap-none x h e j l = none-by (2 ^ 32 - x) x h (omega arith) e j l

-- two tests that agree have the same gap
gap-by-same : (test other : ℕ → Bool) → ((y : ℕ) → test y ≡ other y) → (f x : ℕ) → gap_by test f x ≡ gap_by other f x
unfolding gap_by
gap-by-same test other same zero x = refl
gap-by-same test other same (suc f) x = rw (same x, gap-by-same test other same f (x + 4))

pub gap_same : (test other : ℕ → Bool) → ((y : ℕ) → test y ≡ other y) → (x : ℕ) → gap_from test x ≡ gap_from other x
unfolding gap_from
gap_same test other same x = gap-by-same test other same (2 ^ 32 - x) x
