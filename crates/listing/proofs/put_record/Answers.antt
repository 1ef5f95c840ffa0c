-- `listing::put_record` meets its contract: its pieces, one after the other.
use Rattle.base.proofs.Prelude.{arith}
use Rattle.text.proofs.Writers.{wrote_then}
use Rattle.words.specs.Names.{bytes}
use Rattle.listing.specs.Lines.{newline}
use Rattle.listing.specs.Listing.{record_line}
use Rattle.listing.proofs.put_record.Goals as goal

pub returns : goal.returns
unfolding record_line newline bytes
returns c =
    let first = wrote_then (wrote_then c.put_bytes.ensures c.put_field.ensures.0) c.put_field-2.ensures.0 in
    let addresses = wrote_then (wrote_then first c.put_field-3.ensures.0) c.put_field-4.ensures.0 in
    (wrote_then (wrote_then addresses c.put_two_digits.ensures.0) c.put_byte.ensures, omega arith)
