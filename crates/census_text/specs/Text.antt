-- Document 02, W11: a line for each class, in document 01's order.
-- Assumes nothing.
use Rattle.std.specs.Prelude.{ℕ, List, [], ◌∷◌, ◌++◌}
use Rattle.tally.specs.Census.{Entry, census}
use Rattle.text.specs.Decimal.{decimal}
use Rattle.words.specs.Names.{name_of}

-- the name, the unconditional count and the conditional one, with single spaces between
unfoldable pub line_of : Entry → List ℕ
line_of e = name_of e.class ++ (32 ∷ decimal e.unconditional) ++ (32 ∷ decimal e.conditional) ++ (10 ∷ [])

unfoldable pub lines_of : List Entry → List ℕ
lines_of [] = []
lines_of (e ∷ es) = line_of e ++ lines_of es

unfoldable pub census_text : List ℕ
census_text = lines_of census
