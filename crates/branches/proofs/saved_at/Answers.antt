-- `branches::saved_at` meets its contract.
use Rattle.context.specs.Blocks.{saved_at}
use Rattle.branches.proofs.EntryLaws.{word-saves}
use Rattle.branches.proofs.saved_at.Goals as goal

pub returns : goal.returns
unfolding saved_at
returns c = rw (← c.word_from.ensures) (word-saves c.word_from.result c.args.address c.map_or.ensures)
