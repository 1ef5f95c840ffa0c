-- Laws of counting: by parts, by equal tests, and where a test looks at one part of the number.
use Rattle.base.proofs.Prelude.{◌∙◌, refl, ◌≡◌, ap, Bool, ℕ, ◌+◌, ◌<◌, suc, ◌*◌, zero, arith}
use native.Mathlib.Nat.{add_assoc}
use Rattle.tally.specs.Counting.{one, how_many}

-- the sum of f below n
unfoldable pub sum : ℕ → (ℕ → ℕ) → ℕ
sum zero f = 0
sum (suc n) f = sum n f + f n

pub same_tests : (p q : ℕ → Bool) (n : ℕ) → ((j : ℕ) → j < n → p j ≡ q j) → how_many p n ≡ how_many q n
unfolding how_many
same_tests p q zero h = refl
same_tests p q (suc n) h = rw (same_tests p q n (λ j l. h j (omega arith)), h n (omega arith))

pub same-terms : (f g : ℕ → ℕ) (n : ℕ) → ((j : ℕ) → j < n → f j ≡ g j) → sum n f ≡ sum n g
unfolding sum
same-terms f g zero h = refl
same-terms f g (suc n) h = rw (same-terms f g n (λ j l. h j (omega arith)), h n (omega arith))

pub in_two : (p : ℕ → Bool) (m n : ℕ) → how_many p (m + n) ≡ how_many p m + how_many (λ j. p (m + j)) n
unfolding how_many
in_two p m zero = let e : m + 0 ≡ m = omega arith in ap (how_many p) e ∙ omega arith
in_two p m (suc n) =
    let e : m + suc n ≡ suc (m + n) = omega arith in
    ap (how_many p) e ∙ ap (λ (x : ℕ). x + one (p (m + n))) (in_two p m n)
    ∙ add_assoc (how_many p m) (how_many (λ j. p (m + j)) n) (one (p (m + n)))

pub by_parts : (p : ℕ → Bool) (a b : ℕ) → how_many p (a * b) ≡ sum a (λ i. how_many (λ j. p (i * b + j)) b)
unfolding sum how_many
by_parts p zero b = let e : 0 * b ≡ 0 = omega arith in ap (how_many p) e
by_parts p (suc a) b =
    let e : suc a * b ≡ a * b + b = omega arith in
    ap (how_many p) e ∙ in_two p (a * b) b ∙ ap (λ (x : ℕ). x + how_many (λ j. p (a * b + j)) b) (by_parts p a b)

pub sum_same : (n x : ℕ) → sum n (λ _. x) ≡ n * x
unfolding sum
sum_same zero x = omega arith
sum_same (suc n) x = ap (λ (y : ℕ). y + x) (sum_same n x) ∙ omega arith

-- where the high part does not matter
pub low_part : (q : ℕ → Bool) (p : ℕ → Bool) (a b : ℕ) → ((i j : ℕ) → j < b → p (i * b + j) ≡ q j) → how_many p (a * b) ≡ a * how_many q b
low_part q p a b h =
    by_parts p a b ∙ same-terms (λ i. how_many (λ j. p (i * b + j)) b) (λ _. how_many q b) a (λ i l. same_tests (λ j. p (i * b + j)) q b (h i))
    ∙ sum_same a (how_many q b)

-- a test that looks at nothing
pub all_pass : (t : Bool) (n : ℕ) → how_many (λ _. t) n ≡ n * one t
unfolding how_many
all_pass t zero = omega arith
all_pass t (suc n) = ap (λ (x : ℕ). x + one t) (all_pass t n) ∙ omega arith

pub sum-scaled : (f : ℕ → ℕ) (n x : ℕ) → sum n (λ i. x * f i) ≡ x * sum n f
unfolding sum
sum-scaled f zero x = omega arith
sum-scaled f (suc n) x = ap (λ (y : ℕ). y + x * f n) (sum-scaled f n x) ∙ omega arith

sum-tests : (q : ℕ → Bool) (n : ℕ) → sum n (λ i. one (q i)) ≡ how_many q n
unfolding sum how_many
sum-tests q zero = refl
sum-tests q (suc n) = ap (λ (y : ℕ). y + one (q n)) (sum-tests q n)

-- where the low part does not matter
pub high_part : (q : ℕ → Bool) (p : ℕ → Bool) (a b : ℕ) → ((i j : ℕ) → j < b → p (i * b + j) ≡ q i) → how_many p (a * b) ≡ b * how_many q a
high_part q p a b h =
    by_parts p a b
    ∙ same-terms (λ i. how_many (λ j. p (i * b + j)) b) (λ i. b * one (q i)) a (λ i l. same_tests (λ j. p (i * b + j)) (λ _. q i) b (h i) ∙ all_pass (q i) b)
    ∙ sum-scaled (λ i. one (q i)) a b ∙ ap (λ (x : ℕ). b * x) (sum-tests q a)
