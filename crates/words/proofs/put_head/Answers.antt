-- `words::put_head` meets its contract: two pieces, one after the other.
use Rattle.base.proofs.Prelude.{arith}
use Rattle.text.specs.Hex.{hex, digits}
use Rattle.text.proofs.Writers.{wrote_then}
use Rattle.words.specs.Lines.{head_of}
use Rattle.words.proofs.put_head.Goals as goal

pub put_name-requires : goal.put_name-requires
unfolding hex digits
put_name-requires c = omega arith

pub returns : goal.returns
unfolding head_of
returns c = wrote_then c.put_hex.ensures c.put_name.ensures
