-- Counts of all classes at once: a list with a place for each class's number, to which words are added class by class.
use Rattle.base.proofs.Prelude.{◌∙◌, refl, ◌≡◌, ap, List, [], ◌∷◌, ℕ, ◌+◌, suc, ◌*◌, zero, arith}
use Rattle.base.proofs.Prelude.{length, get_or, length-set, set}
use Rattle.std.proofs.lemmas.Grind.{get_or-set_at}
use Rattle.std.proofs.lemmas.List.{get_or-set_other}
use Rattle.std.proofs.lemmas.Bool.Decides.{nat_tests}
use native.Mathlib.Omega.{arith}
use Rattle.classes.specs.declared.Class.{Class}
use Rattle.classes.specs.Class.{class_no, is}
use Rattle.classes.proofs.Numbers.{class-below}
use Rattle.tally.specs.Counting.{one, how_many}

-- the classes of the numbers below n
unfoldable pub listed : (ℕ → Class) → ℕ → List Class
listed f zero = []
listed f (suc n) = f n ∷ listed f n

abbrev pub how_often : Class → List Class → ℕ
how_often k [] = 0
how_often k (c ∷ cs) = how_often k cs + one (is c k)

pub listed-often : (k : Class) (f : ℕ → Class) (n : ℕ) → how_often k (listed f n) ≡ how_many (λ (i : ℕ). is (f i) k) n
unfolding listed how_many
listed-often k f zero = refl
listed-often k f (suc n) = ap (λ (x : ℕ). x + one (is (f n) k)) (listed-often k f n)

-- x more words for each of the classes
unfoldable pub added : ℕ → List Class → List ℕ → List ℕ
added x [] v = v
added x (c ∷ cs) v = let w = added x cs v in set w (class_no c) (get_or w (class_no c) 0 + x)

pub added-length : (x : ℕ) (cs : List Class) (v : List ℕ) → length (added x cs v) ≡ length v
unfolding added
added-length x [] v = refl
added-length x (c ∷ cs) v = length-set (added x cs v) (class_no c) _ ∙ added-length x cs v

pub added-at : (x : ℕ) (cs : List Class) (v : List ℕ) → length v ≡ 74 → (k : Class) → get_or (added x cs v) (class_no k) 0 ≡ get_or v (class_no k) 0 + x * how_often k cs
unfolding added
added-at x [] v l k = omega arith
added-at x (c ∷ cs) v l k =
    let before = added-at x cs v l k in
    let long = added-length x cs v in
    let c-below = class-below c in
    let k-below = class-below k in
    grind (arith, nat_tests, get_or-set_at, get_or-set_other)
