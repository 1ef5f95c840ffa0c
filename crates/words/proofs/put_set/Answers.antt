-- `words::put_set` meets its contract: two pieces, one after the other.
use Rattle.text.proofs.Writers.{wrote_then}
use Rattle.words.proofs.put_set.Goals as goal

pub returns : goal.returns
returns c = wrote_then c.put_byte.ensures c.put_hex.ensures
