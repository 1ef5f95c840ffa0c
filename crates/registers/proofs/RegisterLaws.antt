-- The laws of the sets of registers: a set without its lowest register, and the lowest register of one set that is not in another.
-- Assumes nothing.
use Rattle.base.proofs.Prelude.{refl, ◌∙◌, ◌≡◌, ap, List, [], ◌∷◌, ℕ, ◌+◌, ◌<◌, ◌-◌, ◌*◌, suc, zero, ◌^◌, ◌/◌, ◌%◌, arith, set}
use Rattle.std.proofs.Common.{ap₂, min, mod-lt, zero-lt-suc, pow-suc}
use lib.Bits.{bit_and, and_step, and_self}
use lib.Count.{count_trailing_zeros}
use Rattle.registers.specs.Registers.{column_forgotten, missing_from}

pub none_forgotten : (l : List ℕ) → column_forgotten 0 l ≡ l
unfolding column_forgotten
none_forgotten [] = refl
none_forgotten (x ∷ l) = ap (λ (m : List ℕ). x ∷ m) (none_forgotten l)

-- ---- a set without its lowest register

abbrev without : ℕ → ℕ
without rest = bit_and rest (rest - 1)

odd-without : (rest : ℕ) → rest % 2 ≡ 1 → without rest ≡ rest / 2 * 2 + 0
odd-without rest e =
    let half : (rest - 1) / 2 ≡ rest / 2 = omega arith in
    and_step rest (rest - 1) ∙ ap₂ (λ u v. u * 2 + v) (ap (bit_and (rest / 2)) half ∙ and_self (rest / 2)) (omega arith)

even-without : (rest : ℕ) → 0 < rest → rest % 2 ≡ 0 → without rest ≡ without (rest / 2) * 2 + 0
even-without rest some e =
    let half : (rest - 1) / 2 ≡ rest / 2 - 1 = omega arith in
    and_step rest (rest - 1) ∙ ap₂ (λ u v. u * 2 + v) (ap (bit_and (rest / 2)) half) (omega arith)

-- to clear the lowest register and then the others is to clear all
abbrev Clears : ℕ → ℕ → List ℕ → Type 0
Clears k rest l = column_forgotten (without rest) (set l (count_trailing_zeros k rest) 0) ≡ column_forgotten rest l

one-clears : (k rest x : ℕ) (l : List ℕ) → 0 < rest → (0 < rest / 2 → Clears k (rest / 2) l) → (b : ℕ) → rest % 2 ≡ b → b < 2 → Clears (suc k) rest (x ∷ l)
unfolding column_forgotten count_trailing_zeros
one-clears k rest x l some above zero e b =
    let w = even-without rest some e in
    let low : without rest % 2 ≡ 0 = omega arith in
    let high : without rest / 2 ≡ without (rest / 2) = omega arith in
    rw (e, low, high) (ap (λ (m : List ℕ). x ∷ m) (above (omega arith)))
one-clears k rest x l some above (suc zero) e b =
    let w = odd-without rest e in
    let low : without rest % 2 ≡ 0 = omega arith in
    let high : without rest / 2 ≡ rest / 2 = omega arith in
    rw (e, low, high)
one-clears k rest x l some above (suc (suc n)) e b = absurd (omega arith)

pub forget_lowest : (k rest : ℕ) (l : List ℕ) → 0 < rest → rest < 2 ^ k
    → column_forgotten (bit_and rest (rest - 1)) (set l (count_trailing_zeros k rest) 0) ≡ column_forgotten rest l
unfolding column_forgotten
forget_lowest zero rest l some h = absurd (omega arith)
forget_lowest (suc k) rest [] some h = refl
forget_lowest (suc k) rest (x ∷ l) some h =
    one-clears k rest x l some (λ more. forget_lowest k (rest / 2) l more (omega (arith, pow-suc 2 k))) (rest % 2) refl (mod-lt rest (zero-lt-suc 1))

-- ---- the search from register r on

abbrev Finds : ℕ → ℕ → ℕ → ℕ → Type 0
Finds n r uses defined = r + count_trailing_zeros n (bit_and uses (2 ^ n - 1 - defined)) ≡ missing_from n r uses defined

both-low : (n uses defined : ℕ) → defined < 2 ^ suc n → bit_and uses (2 ^ suc n - 1 - defined) % 2 ≡ min (uses % 2) (1 - defined % 2)
both-low n uses defined h =
    let bit : (2 ^ suc n - 1 - defined) % 2 ≡ 1 - defined % 2 = omega (arith, pow-suc 2 n) in
    let step = and_step uses (2 ^ suc n - 1 - defined) in
    omega arith

both-high : (n uses defined : ℕ) → defined < 2 ^ suc n → bit_and uses (2 ^ suc n - 1 - defined) / 2 ≡ bit_and (uses / 2) (2 ^ n - 1 - defined / 2)
both-high n uses defined h =
    let half : (2 ^ suc n - 1 - defined) / 2 ≡ 2 ^ n - 1 - defined / 2 = omega (arith, pow-suc 2 n) in
    let step = rw half at (and_step uses (2 ^ suc n - 1 - defined)) in
    omega arith

one-finds : (n r uses defined : ℕ) → defined < 2 ^ suc n → Finds n (r + 1) (uses / 2) (defined / 2) → (u d : ℕ) → uses % 2 ≡ u → defined % 2 ≡ d → u < 2 → d < 2
    → Finds (suc n) r uses defined
unfolding missing_from count_trailing_zeros
one-finds n r uses defined h rest (suc zero) zero a b f g = rw (both-low n uses defined h, both-high n uses defined h, a, b) (omega arith)
one-finds n r uses defined h rest zero d a b f g =
    let low : bit_and uses (2 ^ suc n - 1 - defined) % 2 ≡ 0 = omega (arith, both-low n uses defined h) in
    rw (low, both-high n uses defined h, a) (omega arith)
one-finds n r uses defined h rest (suc zero) (suc zero) a b f g = rw (both-low n uses defined h, both-high n uses defined h, a, b) (omega arith)
one-finds n r uses defined h rest (suc (suc u)) d a b f g = absurd (omega arith)
one-finds n r uses defined h rest (suc zero) (suc (suc d)) a b f g = absurd (omega arith)

pub missing-lowest : (n r uses defined : ℕ) → r + n ≡ 16 → defined < 2 ^ n → Finds n r uses defined
unfolding missing_from count_trailing_zeros
missing-lowest zero r uses defined e h = e
missing-lowest (suc n) r uses defined e h =
    one-finds n r uses defined h (missing-lowest n (r + 1) (uses / 2) (defined / 2) (omega arith) (omega (arith, pow-suc 2 n))) (uses % 2) (defined % 2) refl refl
    (mod-lt uses (zero-lt-suc 1)) (mod-lt defined (zero-lt-suc 1))

pub missing_by_zeros : (uses defined : ℕ) → defined < 0x1_0000 → count_trailing_zeros 16 (bit_and uses (0xFFFF - defined)) ≡ missing_from 16 0 uses defined
missing_by_zeros uses defined h = let lowest = missing-lowest 16 0 uses defined refl h in omega arith
