-- Order and zeros, as tests.
-- Assumes nothing.
use Rattle.std.specs.Prelude.{Bool, true, false, List, [], ◌∷◌, ℕ, ltb, eqb}
use Rattle.base.specs.Choice.{pick}

-- the keys rise strictly, from above k on
unfoldable pub rising : ℕ → List ℕ → Bool
rising k [] = true
rising k (x ∷ xs) = pick (ltb k x) (rising x xs) false

unfoldable pub ascending : List ℕ → Bool
ascending [] = true
ascending (x ∷ xs) = rising x xs

unfoldable pub zeros : List ℕ → Bool
zeros [] = true
zeros (x ∷ xs) = pick (eqb x 0) (zeros xs) false
