-- `listing::put_lists` meets its contract: the lists, one after the other.
use Rattle.base.proofs.Prelude.{arith, rules}
use Rattle.text.proofs.Writers.{wrote_then}
use Rattle.words.specs.Names.{bytes}
use Rattle.listing.specs.Listing.{list_lines}
use Rattle.listing.proofs.put_lists.Goals as goal

pub put_lines-requires-5 : goal.put_lines-requires-5
put_lines-requires-5 c = (omega (arith, c.requires.0, c.put_lines.ensures.1, c.put_lines-2.ensures.1, c.put_lines-3.ensures.1, c.put_lines-4.ensures.1), search rules, search rules, c.requires.1.calls)

pub returns : goal.returns
unfolding list_lines bytes
returns c =
    let three = wrote_then (wrote_then c.put_lines.ensures.0 c.put_lines-2.ensures.0) c.put_lines-3.ensures.0 in
    wrote_then (wrote_then three c.put_lines-4.ensures.0) c.put_lines-5.ensures.0
