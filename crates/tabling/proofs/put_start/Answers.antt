-- `put_start` meets its contract: a number has at most three digits.
use Rattle.base.proofs.Prelude.{arith}
use Rattle.text.proofs.Writers.{wrote_then}
use Rattle.text.proofs.Decimal.{decimal-length}
use Rattle.words.specs.Names.{bytes}
use Rattle.listing.specs.Lines.{newline}
use Rattle.tabling.specs.Tabling.{start_line}
use Rattle.tabling.proofs.put_start.Goals as goal

pub put_decimal-requires : goal.put_decimal-requires
put_decimal-requires c = omega (arith, decimal-length 3 c.from.result (omega arith) (omega arith) (omega arith))

pub put_field-requires : goal.put_field-requires
put_field-requires c = omega (arith, decimal-length 3 c.from.result (omega arith) (omega arith) (omega arith))

pub put_byte-requires : goal.put_byte-requires
put_byte-requires c = omega (arith, decimal-length 3 c.from.result (omega arith) (omega arith) (omega arith))

pub put_field-requires-2 : goal.put_field-requires-2
put_field-requires-2 c = omega (arith, decimal-length 3 c.from.result (omega arith) (omega arith) (omega arith))

pub returns : goal.returns
unfolding start_line newline bytes
returns c = (
  rw (← c.from.ensures)
      (wrote_then (wrote_then (wrote_then (wrote_then c.put_bytes.ensures c.put_decimal.ensures) c.put_field.ensures.0) c.put_field-2.ensures.0) c.put_byte.ensures),
  omega (arith, decimal-length 3 c.from.result (omega arith) (omega arith) (omega arith)),
)
