-- `census_text` meets its contract: too little room, or the text, which the checker computes from the census.
use Rattle.std.proofs.Common.{arith, rules}
use Rattle.classes.specs.Class.{class_no}
use Rattle.tally.specs.Census.{census}
use Rattle.text.specs.Decimal.{strip, decimal}
use Rattle.text.specs.Hex.{hex_digit, digits}
use Rattle.words.specs.Names.{bytes, entry, names, name_no, name_of}
use Rattle.words.proofs.Texts.{answered-wrote}
use Rattle.census_text.specs.Text.{line_of, lines_of, census_text}
use Rattle.census_text.proofs.census_text.Goals as goal

pub returns : goal.returns
unfolding census_text lines_of line_of census name_of name_no entry names bytes class_no decimal strip digits hex_digit
returns c =
    let made = c.new-writer.ensures in
    answered-wrote 1534 (omega (arith, c)) made.start made.unwritten c.put_bytes.ensures (search rules)
