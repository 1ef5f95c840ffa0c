-- `Writer::put_byte` meets its contract: a store is a piece of one byte.
use Rattle.base.proofs.Prelude.{refl, arith, length-set}
use Rattle.text.proofs.Put.{set-put}
use Rattle.text.proofs.writer.Writer.put_byte.Goals as goal

pub returns : goal.returns
returns c = record { same = refl; long = simp length-set; text = record { next = refl; text = set-put _ _ _ (omega arith) } }
