-- Lists of entries, over any type of entry. An entry's key is its address.
-- Assumes nothing.
use Rattle.std.specs.Prelude.{Bool, false, List, [], ◌∷◌, ◌++◌, ℕ, suc, ◌-◌, ltb, eqb, length, replicate}
use Rattle.base.specs.Choice.{pick}

-- xs and zeros after it, n places in all
unfoldable pub padded : ℕ → List ℕ → List ℕ
padded n xs = xs ++ replicate (n - length xs) 0

module _ {A : Type 0} (key : A → ℕ) where
  -- how many entries stand before the address x
  unfoldable pub rank : ℕ → List A → ℕ
  rank x [] = 0
  rank x (b ∷ bs) = pick (ltb (key b) x) (suc (rank x bs)) 0

  -- an entry with the address x stands there
  unfoldable pub stands : ℕ → List A → Bool
  stands x [] = false
  stands x (b ∷ bs) = pick (ltb (key b) x) (stands x bs) (eqb (key b) x)

  -- a in its place: for the entry with its address, or before the first that has a higher one
  unfoldable pub inserted : A → List A → List A
  inserted a [] = a ∷ []
  inserted a (b ∷ bs) = pick (ltb (key b) (key a)) (b ∷ inserted a bs) (pick (eqb (key b) (key a)) (a ∷ bs) (a ∷ b ∷ bs))
