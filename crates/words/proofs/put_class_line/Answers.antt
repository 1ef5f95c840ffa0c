-- `words::put_class_line` meets its contract: two pieces, one after the other.
use Rattle.base.proofs.Prelude.{arith}
use Rattle.text.proofs.Writers.{wrote_then}
use Rattle.words.specs.Lines.{class_line_of}
use Rattle.words.proofs.Texts.{head-length}
use Rattle.words.proofs.put_class_line.Goals as goal

pub put_byte-requires : goal.put_byte-requires
put_byte-requires c = omega (arith, head-length c.args.word c.class_of.result)

pub returns : goal.returns
unfolding class_line_of
returns c = rw (← c.class_of.ensures) (wrote_then c.put_head.ensures c.put_byte.ensures)
