-- The text's length, computed.
use Prim.Native.Nat.{◌≤◌}
use native.Mathlib.Omega.{arith}
use lib.ListN.{length}
use Rattle.classes.specs.Class.{class_no}
use Rattle.tally.specs.Census.{census}
use Rattle.text.specs.Decimal.{strip, decimal}
use Rattle.text.specs.Hex.{hex_digit, digits}
use Rattle.words.specs.Names.{bytes, entry, names, name_no, name_of}
use Rattle.census_text.specs.Text.{line_of, lines_of, census_text}

pub text-fits : length census_text ≤ 1534
unfolding census_text lines_of line_of census name_of name_no entry names bytes class_no decimal strip digits hex_digit
text-fits = omega arith
