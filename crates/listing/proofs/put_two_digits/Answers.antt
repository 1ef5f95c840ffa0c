-- `listing::put_two_digits` meets its contract: two pieces, one after the other.
use Rattle.base.proofs.Prelude.{arith}
use Rattle.text.proofs.Hex.{digits-length}
use Rattle.text.proofs.Writers.{wrote_then}
use Rattle.listing.specs.Lines.{two_digits}
use Rattle.listing.proofs.put_two_digits.Goals as goal

pub returns : goal.returns
unfolding two_digits
returns c = (wrote_then c.put_byte.ensures c.put_digits.ensures, omega (arith, digits-length 10 2 c.args.value))
