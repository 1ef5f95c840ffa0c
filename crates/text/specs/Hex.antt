-- The digits of a number, in a base up to 16 and in lower case.
-- Assumes nothing.
use Rattle.std.specs.Prelude.{List, [], ◌∷◌, ℕ, zero, suc, ◌+◌, ◌/◌, ◌%◌, ◌^◌, ltb}
use Rattle.base.specs.Choice.{pick}

-- the digit that stands for d, below 16: '0' is 48, and 'a' is 97
unfoldable pub hex_digit : ℕ → ℕ
hex_digit d = pick (ltb d 10) (48 + d) (87 + d)

-- the n lowest digits of v in base b, the most significant first
unfoldable pub digits : ℕ → ℕ → ℕ → List ℕ
digits b zero v = []
digits b (suc n) v = hex_digit (v / b ^ n % b) ∷ digits b n v

-- the n lowest hexadecimal digits of v
unfoldable pub hex : ℕ → ℕ → List ℕ
hex n v = digits 16 n v
