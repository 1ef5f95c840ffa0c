-- `listing::put_field` meets its contract: two pieces, one after the other.
use Rattle.base.proofs.Prelude.{arith}
use Rattle.text.proofs.Hex.{hex-length}
use Rattle.text.proofs.Writers.{wrote_then}
use Rattle.listing.specs.Lines.{field}
use Rattle.listing.proofs.put_field.Goals as goal

pub returns : goal.returns
unfolding field
returns c = (wrote_then c.put_byte.ensures c.put_hex.ensures, omega (arith, hex-length 8 c.args.value))
