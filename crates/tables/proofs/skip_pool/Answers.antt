-- `tables::skip_pool` meets its contract.
use Rattle.context.specs.Blocks.{skip_pool}
use Rattle.tables.proofs.Laws.{skipped-pool}
use Rattle.tables.proofs.skip_pool.Goals as goal

pub returns : goal.returns
unfolding skip_pool
returns c = λ l h. rw (← (rw c.new-pools.ensures at c.contains-is_pool.ensures), ← skipped-pool) (rw c.then_some.ensures at c.skip.ensures _ h)
