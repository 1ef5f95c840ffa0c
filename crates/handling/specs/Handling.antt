-- The blocks of `from_return` before the pool load, and those behind it.
-- Assumes nothing.
use Rattle.std.specs.Prelude.{Bool, ℕ}
use Rattle.arm.specs.declared.Ins.{Ins}
use Rattle.context.specs.Context.{Context, Step, ◌▸◌}
use Rattle.context.specs.Blocks.{final_return, entry_after_branch, branch, inline_table, function_call, check_defined}

abbrev pub to_load : Ins → ℕ → ℕ → Bool → Bool → Context → Step
to_load i word size inside returns c = final_return i word size inside returns c ▸ entry_after_branch i inside ▸ branch i word size inside

abbrev pub from_load : Ins → ℕ → Bool → Context → Step
from_load i word returns c = inline_table i c ▸ function_call i word ▸ check_defined i returns
