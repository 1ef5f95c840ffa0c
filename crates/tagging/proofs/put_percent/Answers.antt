-- `put_percent` meets its contract: no number has more than 20 digits.
use Rattle.base.proofs.Prelude.{arith}
use Rattle.text.proofs.Decimal.{decimal-short}
use Rattle.text.proofs.Writers.{wrote_then}
use Rattle.words.specs.Names.{bytes}
use Rattle.listing.specs.Lines.{newline}
use Rattle.tagging.specs.Tagging.{percent_line}
use Rattle.tagging.proofs.put_percent.Goals as goal

pub put_decimal-requires : goal.put_decimal-requires
put_decimal-requires c = omega (arith, decimal-short c.args.quotient)

pub put_byte-requires : goal.put_byte-requires
put_byte-requires c = omega (arith, decimal-short c.args.quotient)

pub put_decimal-requires-2 : goal.put_decimal-requires-2
put_decimal-requires-2 c = omega (arith, decimal-short c.args.quotient, decimal-short c.args.remainder)

pub put_byte-requires-2 : goal.put_byte-requires-2
put_byte-requires-2 c = omega (arith, decimal-short c.args.quotient, decimal-short c.args.remainder)

pub returns : goal.returns
unfolding percent_line newline bytes
returns c =
    let number = wrote_then (wrote_then c.put_bytes.ensures c.put_decimal.ensures) c.put_byte.ensures in
    wrote_then (wrote_then number c.put_decimal-2.ensures) c.put_byte-2.ensures
