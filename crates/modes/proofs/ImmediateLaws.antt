-- Laws of a rotated word: its range and each of its bits; and that an immediate is one. Assumes nothing.
use Prim.Native.Nat.{ℕ, zero, suc, ◌+◌, ◌-◌, ◌*◌, ◌/◌, ◌%◌, ◌^◌, ◌<◌, ◌≤◌}
use mathlib.Core.Bool.{Bool, true, false}
use mathlib.Core.Path.{◌≡◌, refl, sym, ap, ◌∙◌, subst}
use native.Mathlib.Nat.{add_comm, mul_assoc, mod-lt, mul-mod_left, mul-add-div_right, mul-add-mod_self_right}
use native.Mathlib.Omega.{arith}
use borrow.Enum.Match.{each_below}
use borrow.Author.Tests.{ltb-true, ltb-false}
use lib.Arith.{digits_lt}
use lib.Dec.{ltb}
use lib.ListN.{get_or}
use lib.Pow as Pow
use mir.Syntax.{w32}
use Rattle.std.specs.Int
use Rattle.std.proofs.lemmas.Nat.{or_comm, or_shifted, mod-pow-add, shl-shr, and_mask}
use Rattle.std.specs.Int.Bits.{bit_and, or_self}
use lib.Pow.{pow-add, pow_pos, shr_lt, shr-shr, mod-mod-pow}
use Rattle.modes.specs.Immediate.{rotate_right, rotations, immediate}

-- the two parts of a word that is cut after its lowest n bits
word : (n : ℕ) → n ≤ 32 → 2 ^ 32 ≡ 2 ^ n * 2 ^ (32 - n)
word n h =
    let e : 32 ≡ n + (32 - n) = omega arith in
    ap (λ (k : ℕ). 2 ^ k) e ∙ pow-add 2 n (32 - n)

high-short : (n v : ℕ) → n ≤ 32 → v < 2 ^ 32 → v / 2 ^ n < 2 ^ (32 - n)
high-short n v h hv =
    let e : 32 ≡ 32 - n + n = omega arith in
    shr_lt (32 - n) n (subst (λ (k : ℕ). v < 2 ^ k) e hv)

pub rotated-below : (n v : ℕ) → n ≤ 32 → v < 2 ^ 32 → rotate_right n v < 2 ^ 32
unfolding rotate_right
rotated-below n v h hv =
    let k : v % 2 ^ n * 2 ^ (32 - n) + v / 2 ^ n < 2 ^ n * 2 ^ (32 - n) = digits_lt (mod-lt v (pow_pos n)) (high-short n v h hv) in
    omega (arith, word n h)

-- ---- bit by bit

-- a bit below the m lowest bits of a sum whose other part is a multiple of 2 ^ m
low_bit : (q m r i : ℕ) → i < m → (r + q * 2 ^ m) / 2 ^ i % 2 ≡ r / 2 ^ i % 2
low_bit q m r i h =
    let k = m - 1 - i in
    let e : 2 ^ m ≡ 2 ^ k * 2 * 2 ^ i = ap (λ (j : ℕ). 2 ^ j) (omega arith) ∙ pow-add 2 (k + 1) i ∙ ap (λ (x : ℕ). x * 2 ^ i) (pow-add 2 k 1) in
    let e' : r + q * 2 ^ m ≡ q * 2 ^ k * 2 * 2 ^ i + r =
    add_comm r (q * 2 ^ m) ∙ ap (λ (x : ℕ). q * x + r) e ∙ ap (λ (x : ℕ). x + r) (sym (mul_assoc q (2 ^ k * 2) (2 ^ i)) ∙ ap (λ (x : ℕ). x * 2 ^ i) (sym (mul_assoc q (2 ^ k) 2))) in
    ap (λ (x : ℕ). x / 2 ^ i % 2) e' ∙ ap (λ (x : ℕ). x % 2) (mul-add-div_right (pow_pos i) (q * 2 ^ k * 2) r)
    ∙ mul-add-mod_self_right (q * 2 ^ k) 2 (r / 2 ^ i)

-- a bit above them
high_bit : (q m r j : ℕ) → r < 2 ^ m → (r + q * 2 ^ m) / 2 ^ (m + j) ≡ q / 2 ^ j
high_bit q m r j h =
    sym (shr-shr (r + q * 2 ^ m) m j) ∙ ap (λ (x : ℕ). x / 2 ^ j) (ap (λ (x : ℕ). x / 2 ^ m) (add_comm r (q * 2 ^ m)) ∙ Pow.high q m h)

-- a bit of the n lowest bits
field-bit : (v n j : ℕ) → j < n → v % 2 ^ n / 2 ^ j % 2 ≡ v / 2 ^ j % 2
field-bit v n j h =
    let k = n - 1 - j in
    ap (λ (m : ℕ). v % 2 ^ m / 2 ^ j % 2) (omega arith) ∙ ap (λ (x : ℕ). x % 2) (Pow.field v (k + 1) j) ∙ mod-mod-pow (v / 2 ^ j) k 1

rotated_by : (n v i : ℕ) → n < 32 → v < 2 ^ 32 → i < 32 → (t : Bool) → ltb i (32 - n) ≡ t
    → rotate_right n v / 2 ^ i % 2 ≡ v / 2 ^ ((i + n) % 32) % 2
unfolding rotate_right
rotated_by n v i hn hv hi true e =
    let h : i < 32 - n = ltb-true i (32 - n) e in
    low_bit (v % 2 ^ n) (32 - n) (v / 2 ^ n) i h ∙ ap (λ (x : ℕ). x % 2) (shr-shr v n i) ∙ ap (λ (k : ℕ). v / 2 ^ k % 2) (omega arith)
rotated_by n v i hn hv hi false e =
    let h : 32 - n ≤ i = ltb-false i (32 - n) e in
    let m = 32 - n in
    let j = i - (32 - n) in
    ap (λ (k : ℕ). (v / 2 ^ n + v % 2 ^ n * 2 ^ m) / 2 ^ k % 2) (omega arith)
    ∙ ap (λ (x : ℕ). x % 2) (high_bit (v % 2 ^ n) m (v / 2 ^ n) j (high-short n v (omega arith) hv)) ∙ field-bit v n j (omega arith)
    ∙ ap (λ (k : ℕ). v / 2 ^ k % 2) (omega arith)

-- bit i of the rotated word is bit i + n of the word, counted modulo 32
pub rotated : (n v i : ℕ) → n < 32 → v < 2 ^ 32 → i < 32 → rotate_right n v / 2 ^ i % 2 ≡ v / 2 ^ ((i + n) % 32) % 2
rotated n v i hn hv hi = rotated_by n v i hn hv hi (ltb i (32 - n)) refl

-- the machine's rotation of 32 bits
turned : (n v : ℕ) → n < 32 → v < 2 ^ 32 → Int.rotate_right w32 v n ≡ rotate_right n v
unfolding rotate_right
turned zero v h hv =
    let none : v / 1 ≡ v = omega arith in
    let all : v * 1 % 2 ^ 32 ≡ v = omega arith in
    rw (all, none, or_self v) (omega arith)
turned (suc k) v h hv =
    let n = suc k in
    let m = 32 - n in
    let by : n % 32 ≡ n = omega arith in
    let up : (32 - n) % 32 ≡ m = omega arith in
    let whole : 32 ≡ n + m = omega arith in
    let high : v * 2 ^ m % 2 ^ 32 ≡ v % 2 ^ n * 2 ^ m =
    ap (λ (j : ℕ). v * 2 ^ m % 2 ^ j) whole ∙ mod-pow-add (v * 2 ^ m) n m ∙ rw (shl-shr v m, mul-mod_left v (2 ^ m)) (omega arith) in
    rw (by, up, high, or_comm, or_shifted (v % 2 ^ n) m (v / 2 ^ n) (high-short n v (omega arith) hv)) (add_comm (v % 2 ^ n * 2 ^ m) (v / 2 ^ n))

-- ---- the sixteen cases

-- each case is the eight bits rotated right by twice its field
pub by_field : (v : ℕ) → v < 256 → (k : ℕ) → k < 16 → get_or (rotations v) k 0 ≡ rotate_right (2 * k) v
unfolding rotations rotate_right
by_field v h k l =
    each_below 16 (λ (k : ℕ). get_or (rotations v) k 0 ≡ rotate_right (2 * k) v)
    (omega arith) k l

pub immediate-rotates : (w : ℕ) → immediate w ≡ rotate_right (2 * (w / 256 % 16)) (w % 256)
unfolding immediate
immediate-rotates w = by_field (w % 256) (omega arith) (w / 256 % 16) (omega arith)

-- the code's rotation of the eight bits
pub rotation : (w : ℕ) → Int.rotate_right w32 (bit_and w 255) (2 * bit_and (w / 256) 15) ≡ immediate w
rotation w =
    rw (and_mask w 8, and_mask (w / 256) 4) (turned (2 * (w / 256 % 16)) (w % 256) (omega arith) (omega arith) ∙ sym (immediate-rotates w))

pub immediate-rotated : (w i : ℕ) → i < 32 → immediate w / 2 ^ i % 2 ≡ w % 256 / 2 ^ ((i + 2 * (w / 256 % 16)) % 32) % 2
immediate-rotated w i h =
    ap (λ (x : ℕ). x / 2 ^ i % 2) (immediate-rotates w) ∙ rotated (2 * (w / 256 % 16)) (w % 256) i (omega arith) (omega arith) h

-- ---- instructions

-- `mov r0, #0xFF`, which is not rotated, and `mov r0, #0xFF000000`
moved-low : immediate 0xE3A0_00FF ≡ 0xFF
unfolding immediate rotations
moved-low = refl

moved-high : immediate 0xE3A0_04FF ≡ 0xFF00_0000
unfolding immediate rotations
moved-high = refl
