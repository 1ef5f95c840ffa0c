-- `Writer::put_bytes` meets its contract: a part of the buffer is overwritten.
use Rattle.base.proofs.Prelude.{refl, rules}
use Rattle.text.proofs.Put.{put_part}
use Rattle.text.proofs.writer.Writer.put_bytes.Goals as goal

pub returns : goal.returns
returns c = record { same = refl; long = search rules; text = record { next = refl; text = rw c.copy_from_slice.ensures.after (put_part _ _ _) } }
