-- The laws of `ascending`, `zeros` and what follows from them.
-- Assumes nothing.
use Rattle.base.proofs.Prelude.{◌∙◌, sym, refl, ◌≡◌, ap, false, true, List, [], ◌∷◌, ◌++◌, ◌≤◌, ℕ, ◌<◌, ◌-◌, suc, zero, arith}
use Rattle.base.proofs.Prelude.{le_of_suc-le-suc, not-suc-le-zero, zero-le, suc-le-suc, add-one, eqb, ltb, leb, length, get_or, drop, take, map}
use Rattle.base.proofs.Prelude.{replicate, length-drop, length-append, take-append-drop, length-take-le, eq-eqb, le-leb}
use Rattle.base.proofs.Prelude.{leb-true, eqb-true, ltb-true}
use native.Mathlib.Nat.{lt_trans}
use lib.Seq.{drop-append_seam}
use Rattle.std.specs.Prelude.{Bool, ◌&&◌}
use Rattle.std.specs.List.{list_all, IsAllAdjacentAnswer}
use Rattle.base.specs.Choice.{pick, both}
use Rattle.base.proofs.ChoiceLaws.{both_first, both-second}
use Rattle.rows.specs.Order.{rising, ascending, zeros}
use Rattle.rows.specs.Rows.{padded}

-- ---- ascending keys

pub rising-at : (k : ℕ) (xs : List ℕ) (j : ℕ) → rising k xs ≡ true → j < length xs → k < get_or xs j 0
unfolding rising
rising-at k [] j e h = absurd (not-suc-le-zero h)
rising-at k (x ∷ xs) zero e h = ltb-true k x (both_first _ _ e)
rising-at k (x ∷ xs) (suc j) e h =
    lt_trans (ltb-true k x (both_first (ltb k x) _ e)) (rising-at x xs j (both-second (ltb k x) _ e) (le_of_suc-le-suc h))

pub rising-ascending : (x : ℕ) (xs : List ℕ) → rising x xs ≡ true → ascending xs ≡ true
unfolding rising ascending
rising-ascending x [] e = refl
rising-ascending x (y ∷ ys) e = both-second (ltb x y) _ e

-- ---- zeros

pub zeros-replicate : (xs : List ℕ) → zeros xs ≡ true → xs ≡ replicate (length xs) 0
unfolding zeros
zeros-replicate [] e = refl
zeros-replicate (x ∷ xs) e =
    let first : x ≡ 0 = eqb-true x 0 (both_first (eqb x 0) _ e) in
    let rest : xs ≡ replicate (length xs) 0 = zeros-replicate xs (both-second (eqb x 0) _ e) in
    cc

pub replicate-zeros : (n : ℕ) → zeros (replicate n 0) ≡ true
unfolding zeros
replicate-zeros zero = refl
replicate-zeros (suc n) = rw (eq-eqb 0 0 refl) (replicate-zeros n)

-- a slice has room for the count, and zeros after it
unfoldable pub cleared : List ℕ → ℕ → Bool
cleared list count = pick (leb count (length list)) (zeros (drop count list)) false

-- a slice that is cleared past the count is its first numbers, and zeros after them
pub cleared-padded : (c : List ℕ) (n : ℕ) → cleared c n ≡ true → c ≡ padded (length c) (take n c)
unfolding cleared padded
cleared-padded c n e =
    let fits : n ≤ length c = leb-true n (length c) (both_first (leb n (length c)) _ e) in
    let short : length (take n c) ≡ n = length-take-le n c fits in
    let rest : drop n c ≡ replicate (length (drop n c)) 0 = zeros-replicate (drop n c) (both-second (leb n (length c)) _ e) in
    sym (take-append-drop n c) ∙ ap (λ (r : List ℕ). take n c ++ r) (rest ∙ rw (length-drop n c, short))

pub padded-cleared : (m : ℕ) (xs : List ℕ) → length xs ≤ m → cleared (padded m xs) (length xs) ≡ true
unfolding cleared padded
padded-cleared m xs h =
    let long : length xs ≤ length (xs ++ replicate {A = ℕ} (m - length xs) 0) = simp length-append (omega arith) in
    rw (le-leb _ _ long, drop-append_seam xs (replicate (m - length xs) 0)) (replicate-zeros (m - length xs))

-- the test, as that each number is zero
pub zeros-all : (xs : List ℕ) → list_all (λ x. eqb x 0) xs ≡ zeros xs
unfolding zeros
zeros-all [] = refl
zeros-all (x ∷ xs) = step (eqb x 0) (zeros-all xs)
  where
    step : (b : Bool) → list_all (λ x. eqb x 0) xs ≡ zeros xs → (b && list_all (λ x. eqb x 0) xs) ≡ pick b (zeros xs) false
    step true e = e
    step false e = refl

-- ---- neighbours that are each below the next

pub ascends : {A : Type 0} (key : A → ℕ) (xs : List A) (r : Bool) → IsAllAdjacentAnswer (λ x y b. b ≡ ltb (key x) (key y)) xs r → r ≡ ascending (map key xs)
unfolding ascending rising
ascends key [] true h = refl
ascends key [] false (k, l, low) = absurd (omega arith)
ascends key (x ∷ []) true h = refl
ascends key (x ∷ []) false (k, l, low) = absurd (omega arith)
ascends key (x ∷ y ∷ ys) true h =
    let first : true ≡ ltb (key x) (key y) = h 0 x (suc-le-suc (suc-le-suc zero-le)) in
    rw (← first) (ascends key (y ∷ ys) true (λ k e l. rw add-one (rw add-one at (h (suc k) e (omega arith)))))
ascends key (x ∷ y ∷ ys) false (zero, l, low) =
    let first : false ≡ ltb (key x) (key y) = low x in
    rw (← first)
ascends key (x ∷ y ∷ ys) false (suc k, l, low) =
    let rest = ascends key (y ∷ ys) false (k, omega arith, λ e. rw add-one (rw add-one at (low e))) in
    step (ltb (key x) (key y)) rest
  where
    step : (b : Bool) → false ≡ rising (key y) (map key ys) → false ≡ both b (rising (key y) (map key ys))
    step true e = e
    step false e = refl
