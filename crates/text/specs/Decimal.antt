-- The decimal text of a number below 10 ^ 20, without leading zeros.
-- Assumes nothing.
use Rattle.std.specs.Prelude.{List, [], ◌∷◌, ℕ, eqb}
use Rattle.text.specs.Hex.{digits}
use Rattle.base.specs.Choice.{pick}

-- a text without the zeros, 48, that it starts with; its last digit stays
unfoldable pub strip : List ℕ → List ℕ
strip [] = []
strip (d ∷ []) = d ∷ []
strip (d ∷ e ∷ t) = pick (eqb d 48) (strip (e ∷ t)) (d ∷ e ∷ t)

-- a u64 has at most 20 digits
unfoldable pub decimal : ℕ → List ℕ
decimal v = strip (digits 10 20 v)
