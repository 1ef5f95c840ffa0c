-- The first address of x, x + 4, x + 8, .. that is not held.
-- Assumes nothing.
use Rattle.std.specs.Prelude.{Bool, ℕ, zero, suc, ◌+◌, ◌-◌, ◌^◌, ltb, Option, Some, None}
use Rattle.base.specs.Choice.{choose}

-- by any test for "is held", and at most f steps; a sum that leaves 32 bits ends the run
unfoldable pub gap_by : (ℕ → Bool) → ℕ → ℕ → Option ℕ
gap_by test zero x = None
gap_by test (suc f) x =
    choose (test x) (λ _. choose (ltb (x + 4) (2 ^ 32)) (λ _. gap_by test f (x + 4)) (λ _. None)) (λ _. Some x)

-- a step moves on, so there are no more than numbers left
unfoldable pub gap_from : (ℕ → Bool) → ℕ → Option ℕ
gap_from test x = gap_by test (2 ^ 32 - x) x
