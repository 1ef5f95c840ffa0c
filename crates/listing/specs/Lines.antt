-- Document 01: the lines of a listing.
-- Assumes nothing.
use Rattle.std.specs.Prelude.{ℕ, List, [], ◌∷◌, ◌++◌, eqb, length, get_or}
use Rattle.context.specs.Blocks.{call, thumb}
use Rattle.context.specs.Context.{pool_row, table_row, call_row}
use Rattle.rows.specs.Map.{key_of}
use Rattle.text.specs.Hex.{digits, hex}
use Rattle.base.specs.Choice.{pick}
use Rattle.words.specs.Names.{bytes}

-- a space and eight digits
unfoldable pub field : ℕ → List ℕ
field v = 32 ∷ hex 8 v

-- a space and two decimal digits
unfoldable pub two_digits : ℕ → List ℕ
two_digits n = 32 ∷ digits 10 2 n

unfoldable pub newline : List ℕ
newline = 10 ∷ []

-- a pool's mark, and a call's mode
unfoldable pub mark_of : ℕ → List ℕ
mark_of mark = pick (eqb mark call) (bytes " call") (bytes " other")

unfoldable pub mode_of : ℕ → List ℕ
mode_of mode = pick (eqb mode thumb) (bytes " thumb") (bytes " arm")

-- what follows the address, by how many numbers the row has: a table's size; a pool's value and mark; a call's word, destination and mode
unfoldable pub rest_of : List ℕ → List ℕ
rest_of row =
    pick (eqb (length row) table_row) (field (get_or row 1 0))
    (pick (eqb (length row) pool_row) (field (get_or row 1 0) ++ mark_of (get_or row 2 0))
    (pick (eqb (length row) call_row) ((field (get_or row 1 0) ++ field (get_or row 2 0)) ++ mode_of (get_or row 3 0)) []))

unfoldable pub line_of : List ℕ → List ℕ → List ℕ
line_of name row = ((name ++ field (key_of row)) ++ rest_of row) ++ newline

unfoldable pub lines_of : List ℕ → List (List ℕ) → List ℕ
lines_of name [] = []
lines_of name (row ∷ rows) = line_of name row ++ lines_of name rows
