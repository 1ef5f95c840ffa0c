-- `Writer::put_decimal` meets its contract: the digits that the decimal text keeps.
use Rattle.base.proofs.Prelude.{refl, arith, rules}
use Rattle.text.proofs.Hex.{digits-length}
use Rattle.text.proofs.Decimal.{decimal-digits}
use Rattle.text.proofs.writer.Writer.put_decimal.Goals as goal

pub invariant_of-self : goal.invariant_of-self
invariant_of-self c = record { within = omega (arith, digits-length 10 c.decimal_len.result c.args.value) }

pub returns : goal.returns
returns c = record { same = refl; long = search rules; text = rw (decimal-digits c.args.value, ← c.decimal_len.ensures) c.put_digits-self.ensures }
