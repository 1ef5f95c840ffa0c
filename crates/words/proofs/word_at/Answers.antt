-- `words::word_at` meets its contract.
use Rattle.words.specs.Lines.{word_at}
use Rattle.words.proofs.word_at.Goals as goal

pub returns : goal.returns
unfolding word_at
returns c = c.from_be_bytes.ensures
