-- The rules of the two tables.
-- Assumes nothing.
use Rattle.base.proofs.Prelude.{refl, ◌≡◌, false, true, Bool, List, [], ◌∷◌, map, ◌≤◌, ℕ, suc, zero, zero-le}
use Rattle.base.proofs.Prelude.{leb, T, length, get_or}
use Prim.Native.String.{String}
use Rattle.std.specs.Borrow.{Bor}
use lib.Dec.{leb→le}
use Rattle.base.specs.Choice.{both}
use Rattle.words.specs.Names.{bytes, entry, names, name_no, conditions, cond_of}

-- ---- how long the texts of a list are

both_left : (a b : Bool) → T (both a b) → T a
both_left true b t = tt
both_left false b t = t

both_right : (a b : Bool) → T (both a b) → T b
both_right true b t = t
both_right false b t = absurd t

-- every text of a list has at most n bytes
abbrev short : ℕ → List String → Bool
short n [] = true
short n (s ∷ ss) = both (leb (length (bytes s)) n) (short n ss)

entry-short : (n : ℕ) (ss : List String) → T (short n ss) → (k : ℕ) → length (entry ss k) ≤ n
unfolding entry
entry-short n [] t k = zero-le
entry-short n (s ∷ ss) t zero = leb→le (length (bytes s)) n (both_left (leb (length (bytes s)) n) (short n ss) t)
entry-short n (s ∷ ss) t (suc k) = entry-short n ss (both_right (leb (length (bytes s)) n) (short n ss) t) k

entry-at : (ss : List String) (k : ℕ) → get_or (map bytes ss) k [] ≡ entry ss k
unfolding entry
entry-at [] k = refl
entry-at (s ∷ ss) zero = refl
entry-at (s ∷ ss) (suc k) = entry-at ss k

-- ---- the names

-- what the source's table holds
unfoldable pub texts : List (List ℕ)
unfolding bytes names
texts = map bytes names

-- a row of a table of lent texts
pub lent-row : (rows : List (Bor (List ℕ))) (k : ℕ)
    → (get_or rows k (record { ref_ptr = (0, 0); now = [] })).now ≡ get_or (map (λ (r : Bor (List ℕ)). r.now) rows) k []
lent-row [] k = refl
lent-row (row ∷ rows) zero = refl
lent-row (row ∷ rows) (suc k) = lent-row rows k

pub name-row : (k : ℕ) → get_or texts k [] ≡ name_no k
unfolding texts name_no
name-row k = entry-at names k

pub name-short : (k : ℕ) → length (name_no k) ≤ 7
unfolding bytes names name_no
name-short k = entry-short 7 names tt k

-- ---- the conditions

-- the source's table
unfoldable pub letters : List (List ℕ)
unfolding bytes conditions
letters = map bytes conditions

pub condition-short : (c : ℕ) → length (cond_of c) ≤ 2
unfolding bytes conditions cond_of
condition-short c = entry-short 2 conditions tt c

-- the table's row at a condition
pub condition-row : (c : ℕ) → get_or letters c [] ≡ cond_of c
unfolding letters cond_of
condition-row c = entry-at conditions c
