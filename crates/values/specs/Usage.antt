-- The number of a pool word's use, in its row.
-- Assumes nothing.
use Rattle.std.specs.Prelude.{ℕ}
use Rattle.context.specs.Blocks.{other, call}
use Rattle.values.specs.declared.PoolConstantUsage.{PoolConstantUsage}
use Rattle.values.specs.declared.PoolConstantUsage.TheVariants.{Other, Call}

abbrev pub usage_no : PoolConstantUsage → ℕ
usage_no Other = other
usage_no Call = call
