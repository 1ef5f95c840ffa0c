-- `listing::put_line` meets its contract: its pieces, one after the other.
use Rattle.base.proofs.Prelude.{arith}
use Rattle.text.proofs.Writers.{wrote_then}
use Rattle.listing.specs.Lines.{newline, line_of}
use Rattle.listing.proofs.put_line.Goals as goal

pub returns : goal.returns
unfolding line_of newline
returns c =
    (wrote_then (wrote_then (wrote_then c.put_bytes.ensures c.put_field.ensures.0) c.put_rest.ensures.0) c.put_byte.ensures, omega arith)
