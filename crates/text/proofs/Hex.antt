-- The laws of `digits` and `hex`.
-- Assumes nothing.
use Rattle.base.proofs.Prelude.{refl, ◌≡◌, ap, List, [], ◌∷◌, ◌≤◌, ℕ, ◌+◌, suc, zero, ◌^◌, ◌/◌, ◌%◌, add-one, length, set}
use native.Mathlib.Nat.{div-div-eq-div-mul, pow-suc}
use Rattle.text.specs.Put.{put}
use Rattle.text.specs.Hex.{hex_digit, digits, hex}
use Rattle.text.proofs.Put.{put-cons}

pub digits-length : (b n v : ℕ) → length (digits b n v) ≡ n
unfolding digits
digits-length b zero v = refl
digits-length b (suc n) v = ap suc (digits-length b n v)

pub hex-length : (n v : ℕ) → length (hex n v) ≡ n
unfolding hex
hex-length n v = digits-length 16 n v

-- how long a number's digits are
pub ruleset lengths = (digits-length, hex-length)

-- one more digit is taken off the end
pub shift-more : (b n v : ℕ) → v / b ^ n / b ≡ v / b ^ (n + 1)
shift-more b n v = rw (div-div-eq-div-mul, add-one, pow-suc)

-- the next digit, before the n that are written: a turn of a loop from the last digit to the first
pub put-digits-more : (l : List ℕ) (at b n v : ℕ) → at + 1 + n ≤ length l
    → set (put l (at + 1) (digits b n v)) at (hex_digit (v / b ^ n % b)) ≡ put l at (digits b (n + 1) v)
unfolding digits
put-digits-more l at b n v h =
    rw (add-one n) (put-cons l at (digits b n v) (hex_digit (v / b ^ n % b)) (rw digits-length h))

-- ---- examples

example-hex : hex 4 0x12abcdef ≡ 99 ∷ 100 ∷ 101 ∷ 102 ∷ []
unfolding hex digits hex_digit
example-hex = refl

example-hex-zeros : hex 4 0x1a ≡ 48 ∷ 48 ∷ 49 ∷ 97 ∷ []
unfolding hex digits hex_digit
example-hex-zeros = refl
