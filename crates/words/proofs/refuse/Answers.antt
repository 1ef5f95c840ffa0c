-- `words::refuse` meets its contract: the line is written at the buffer's start.
use Rattle.base.proofs.Prelude.{arith, rules}
use Rattle.words.specs.Names.{bytes}
use Rattle.words.specs.Answer.{refusal}
use Rattle.words.proofs.Texts.{answered-wrote}
use Rattle.words.proofs.refuse.Goals as goal

pub returns : goal.returns
unfolding refusal bytes
returns c =
    let made = c.new-writer.ensures in
    answered-wrote 20 (omega (arith, c)) made.start made.unwritten c.put_bytes.ensures (search rules)
