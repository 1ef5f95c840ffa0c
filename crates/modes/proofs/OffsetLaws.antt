-- Laws of the signed offsets: what the definitions are in each of their cases, their ranges, and that an offset's bits in two's complement
-- lead to the same destination as the offset itself. Assumes nothing.
use Prim.Native.Nat.{ℕ, zero, suc, ◌+◌, ◌-◌, ◌*◌, ◌%◌, ◌^◌, ◌<◌, ◌≤◌}
use mathlib.Core.Bool.{Bool, true, false, not, cond}
use mathlib.Core.Path.{◌≡◌, refl, sym, ap, ◌∙◌, subst}
use native.Mathlib.Nat.{mod-lt}
use native.Mathlib.Omega.{arith}
use borrow.Author.Tests.{lt-ltb, le-ltb, ltb-true, ltb-false}
use lib.Dec.{T, ltb, ltb→lt, nltb→le}
use lib.IntN.{ℤ, pos, negsuc, neg_ℤ, ◌+ℤ◌, ◌-ℤ◌, +ℤ_assoc, +ℤ_comm}
use lib.Signed.{mag, shr_z}
use mir.Syntax.{w32}
use mir.Val.{SFits, of_z, to_z}
use mir.Facts.{to_z-of_z}
use Rattle.modes.specs.Offset.{signed, modulo, branch_offset, load_offset, destination}

-- ---- the cases of the definitions

pub signed_low : (half x : ℕ) → x < half → signed half x ≡ pos x
unfolding signed
signed_low half x h = rw (lt-ltb x half h, signed)

pub signed_high : (half x : ℕ) → half ≤ x → signed half x ≡ pos x -ℤ pos (half + half)
unfolding signed
signed_high half x h = rw (le-ltb x half h, signed)

-- a branch's offset by the sign that a shift copies
pub extended : (w : ℕ) → shr_z (to_z w32 (w * 256 % 0x1_0000_0000)) 256 ≡ branch_offset w
unfolding branch_offset signed
extended w = grind arith

-- ---- ranges

minus-up : (m a b : ℕ) → a < b → b ≤ a + m → mag (pos a -ℤ pos b) < m
minus-up m a zero h k = absurd (omega arith)
minus-up m a (suc b) h k = rw (lt-ltb a (suc b) h) (omega arith)

signed_by : (half x : ℕ) → x < half + half → (t : Bool) → ltb x half ≡ t → mag (signed half x) < half
signed_by half x h true e =
    let k : x < half = ltb-true x half e in
    subst (λ (z : ℤ). mag z < half) (sym (signed_low half x k)) k
signed_by half x h false e =
    let k : half ≤ x = ltb-false x half e in
    subst (λ (z : ℤ). mag z < half) (sym (signed_high half x k)) (minus-up half x (half + half) h (omega arith))

pub signed_range : (half x : ℕ) → x < half + half → mag (signed half x) < half
signed_range half x h = signed_by half x h (ltb x half) refl

-- a branch's offset is at least -2 ^ 23 and below 2 ^ 23
pub branch-range : (w : ℕ) → mag (branch_offset w) < 2 ^ 23
unfolding branch_offset
branch-range w = signed_range 0x80_0000 (w % 0x100_0000) (omega arith)

pub modulo-below : (m : ℕ) (z : ℤ) → 0 < m → modulo m z < m
unfolding modulo
modulo-below m (pos n) h = mod-lt n h
modulo-below m (negsuc n) h = omega arith

-- ---- the destination

modulo-minus-by : (p q : ℕ) → q ≤ 0x4_0000_0000 → (t : Bool) → (T t → p < q) → (T (not t) → q ≤ p)
    → (p + (0x4_0000_0000 - q)) % 0x1_0000_0000 ≡ modulo 0x1_0000_0000 (cond t (negsuc (q - suc p)) (pos (p - q)))
unfolding modulo
modulo-minus-by p q h true l g = let k : p < q = l tt in omega arith
modulo-minus-by p q h false l g = let k : q ≤ p = g tt in omega arith

-- p - q has the remainder of p + (4 * 2 ^ 32 - q)
modulo-minus : (p q : ℕ) → q ≤ 0x4_0000_0000 → (p + (0x4_0000_0000 - q)) % 0x1_0000_0000 ≡ modulo 0x1_0000_0000 (pos p -ℤ pos q)
unfolding modulo
modulo-minus p zero h = omega arith
modulo-minus p (suc q) h = modulo-minus-by p (suc q) h (ltb p (suc q)) (ltb→lt p (suc q)) (nltb→le p (suc q))

-- the last summand goes before the one that may be negative
swap-last : (a b e : ℤ) → a +ℤ e +ℤ b ≡ a +ℤ b +ℤ e
swap-last a b e = +ℤ_assoc a e b ∙ ap (λ (y : ℤ). a +ℤ y) (+ℤ_comm e b) ∙ sym (+ℤ_assoc a b e)

-- the bits of a number in two's complement are its remainder
pub bits-modulo : (z : ℤ) → SFits w32 z → of_z w32 z ≡ modulo 0x1_0000_0000 z
unfolding modulo
bits-modulo (pos n) f = let k : n < 2 ^ 31 = f.sfits in omega arith
bits-modulo (negsuc n) f = let k : n < 2 ^ 31 = f.sfits in omega arith

-- the destination by the offset's bits in two's complement
pub by_bits : (a : ℕ) (z : ℤ) (extra : ℕ) → SFits w32 z → (a + 8 + 4 * of_z w32 z + extra) % 0x1_0000_0000 ≡ destination a z extra
unfolding destination modulo
by_bits a (pos n) extra f = refl
by_bits a (negsuc n) extra f =
    let k : n < 2 ^ 31 = f.sfits in
    let step : (a + 8 + 4 * (0x1_0000_0000 - suc n) + extra) % 0x1_0000_0000 ≡ (a + 8 + extra + (0x4_0000_0000 - 4 * suc n)) % 0x1_0000_0000 = omega arith in
    step ∙ modulo-minus (a + 8 + extra) (4 * suc n) (omega arith)
    ∙ ap (modulo 0x1_0000_0000) (swap-last (pos (a + 8)) (neg_ℤ (pos (4 * suc n))) (pos extra))

-- ---- instructions

-- `b .`: a branch to itself, two words back from what r15 reads as
branch-to-itself : destination 0x8000 (branch_offset 0xEAFF_FFFE) 0 ≡ 0x8000
unfolding destination modulo branch_offset signed
branch-to-itself = refl

-- a branch back past address 0
branch-past-zero : destination 0 (branch_offset 0xEAFF_FFFD) 0 ≡ 0xFFFF_FFFC
unfolding destination modulo branch_offset signed
branch-past-zero = refl

-- `ldr pc, [pc, #-4]` and `ldr r0, [r1, #4]`
load-back : load_offset 0xE51F_F004 ≡ negsuc 3
unfolding load_offset
load-back = refl

load-on : load_offset 0xE591_0004 ≡ pos 4
unfolding load_offset
load-on = refl

-- an offset read from its bits, and its bits
pub ruleset offsets = (extended, branch-range, bits-modulo, to_z-of_z)
