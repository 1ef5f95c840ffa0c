-- The laws of `decimal`.
-- Assumes nothing.
use Rattle.base.proofs.Prelude.{◌∙◌, refl, ◌≡◌, subst, false, true, Bool, List, [], ◌∷◌, ◌≤◌, ℕ, ◌+◌, ◌<◌, ◌-◌, suc, zero, ◌^◌, ◌/◌, ◌%◌, zero-le}
use Rattle.base.proofs.Prelude.{arith, add-zero, add-one, max, ◌*◌, eqb, length, ne_eqb, lt-ltb}
use native.Mathlib.Nat.{add-suc, one-mul, one-le-pow, zero-lt-suc, lt_of_lt_of_le, pow-le-pow_right, pow-succ', div-eq_of_lt, div-lt_iff_lt-mul, le-div_iff_mul-le, mod-eq_of_lt}
use Rattle.text.specs.Hex.{hex_digit, digits}
use Rattle.base.specs.Choice.{pick}
use Rattle.text.specs.Decimal.{strip, decimal}
use Rattle.text.proofs.Hex.{digits-length}

ten-pos : (n : ℕ) → 0 < 10 ^ n
ten-pos n = one-le-pow n 10 (zero-lt-suc 9)

-- ---- leading zeros

-- a first digit that is 0 goes
strip-zero : (n v : ℕ) → v < 10 ^ suc n → strip (digits 10 (suc (suc n)) v) ≡ strip (digits 10 (suc n) v)
unfolding strip digits hex_digit
strip-zero n v h = rw (div-eq_of_lt h)

strip-zeros : (k n v : ℕ) → v < 10 ^ suc n → strip (digits 10 (suc (n + k)) v) ≡ strip (digits 10 (suc n) v)
strip-zeros zero n v h = rw add-zero
strip-zeros (suc k) n v h =
    rw add-suc
    (strip-zero (n + k) v (lt_of_lt_of_le h (pow-le-pow_right (zero-lt-suc 9) (omega arith))) ∙ strip-zeros k n v h)

-- a number below 10 ^ (n + 1) has only zeros before its last n + 1 digits
strip-all : (n v : ℕ) → n < 20 → v < 10 ^ suc n → strip (digits 10 20 v) ≡ strip (digits 10 (suc n) v)
strip-all n v few h =
    let all : n + (19 - n) ≡ 19 = omega arith in
    subst (λ (i : ℕ). strip (digits 10 (suc i) v) ≡ strip (digits 10 (suc n) v)) all (strip-zeros (19 - n) n v h)

-- any other first digit stays, and so does the last
strip-first : (n v : ℕ) → (0 < n → 10 ^ n ≤ v) → v < 10 ^ suc n → strip (digits 10 (suc n) v) ≡ digits 10 (suc n) v
unfolding strip digits hex_digit
strip-first zero v l h = refl
strip-first (suc n) v l h =
    let below : v / 10 ^ suc n < 10 = (div-lt_iff_lt-mul (ten-pos (suc n))).1 (rw pow-succ' at h) in
    let above : 1 ≤ v / 10 ^ suc n = (le-div_iff_mul-le (ten-pos (suc n))).1 (rw one-mul (l (zero-lt-suc n))) in
    rw (mod-eq_of_lt below, lt-ltb (v / 10 ^ suc n) 10 below, ne_eqb (48 + v / 10 ^ suc n) 48 (λ e. omega arith))

-- a number of n digits, and no more, is written with n
pub decimal-is : (n v : ℕ) → 0 < n → n ≤ 20 → (1 < n → 10 ^ (n - 1) ≤ v) → v < 10 ^ n → decimal v ≡ digits 10 n v
unfolding decimal
decimal-is zero v pos few l h = absurd (omega arith)
decimal-is (suc n) v pos few l h =
    let back : suc n - 1 ≡ n = omega arith in
    strip-all n v few h ∙ strip-first n v (λ k. rw back at (l (omega arith))) h

-- ---- the digits that `decimal` keeps

kept : (t : Bool) (a : List ℕ) (n v : ℕ) → a ≡ digits 10 (length a) v → pick t a (digits 10 n v) ≡ digits 10 (length (pick t a (digits 10 n v))) v
kept true a n v e = e
kept false a n v e = rw digits-length

strip-digits : (n v : ℕ) → strip (digits 10 n v) ≡ digits 10 (length (strip (digits 10 n v))) v
unfolding strip digits
strip-digits zero v = refl
strip-digits (suc zero) v = refl
strip-digits (suc (suc n)) v =
    kept (eqb (hex_digit (v / 10 ^ suc n % 10)) 48) (strip (digits 10 (suc n) v)) (suc (suc n)) v (strip-digits (suc n) v)

pub decimal-digits : (v : ℕ) → decimal v ≡ digits 10 (length (decimal v)) v
unfolding decimal
decimal-digits v = strip-digits 20 v

shorter : (t : Bool) (a b : List ℕ) → length a ≤ length b → length (pick t a b) ≤ length b
shorter true a b h = h
shorter false a b h = omega arith

strip-length : (t : List ℕ) → length (strip t) ≤ length t
unfolding strip
strip-length [] = zero-le
strip-length (d ∷ []) = omega arith
strip-length (d ∷ e ∷ t) =
    shorter (eqb d 48) (strip (e ∷ t)) (d ∷ e ∷ t) (let less = strip-length (e ∷ t) in omega arith)

-- no number takes more than 20
pub decimal-short : (v : ℕ) → length (decimal v) ≤ 20
unfolding decimal
decimal-short v = rw digits-length at (strip-length (digits 10 20 v))

-- a number below 10 ^ n takes at most n bytes
pub decimal-length : (n v : ℕ) → 0 < n → n ≤ 20 → v < 10 ^ n → length (decimal v) ≤ n
unfolding decimal
decimal-length zero v pos few h = absurd (omega arith)
decimal-length (suc n) v pos few h =
    rw (strip-all n v few h) (rw digits-length at (strip-length (digits 10 (suc n) v)))

-- ---- how many digits a number has

-- one more than the power of ten that it reaches
pub decimal_long : (k v : ℕ) → 10 ^ k ≤ max v 1 → max v 1 < 10 * 10 ^ k → k < 20 → length (decimal v) ≡ k + 1
decimal_long zero zero least most few = rw (decimal-is 1 0 (omega arith) (omega arith) (λ h. absurd (omega arith)) (omega arith), digits-length)
decimal_long (suc k) zero least most few =
    let next : 10 ^ suc k ≡ 10 * 10 ^ k = rw pow-succ' in
    absurd (omega (arith, ten-pos k))
decimal_long k (suc v) least most few =
    let next : 10 ^ suc k ≡ 10 * 10 ^ k = rw pow-succ' in
    let back : suc k - 1 ≡ k = omega arith in
    rw (decimal-is (suc k) (suc v) (omega arith) few (λ h. rw back (omega arith)) (omega arith), digits-length, add-one)

-- ---- examples

example-zero : decimal 0 ≡ 48 ∷ []
unfolding decimal strip digits hex_digit
example-zero = refl

example-inner-zero : decimal 1905 ≡ 49 ∷ 57 ∷ 48 ∷ 53 ∷ []
unfolding decimal strip digits hex_digit
example-inner-zero = refl
