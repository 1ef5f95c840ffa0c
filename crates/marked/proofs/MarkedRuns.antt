-- Document 01's marked runs: the definitions give the table.
-- Assumes nothing.
use Rattle.base.proofs.Prelude.{◌∙◌, refl, ◌≡◌, map}
use Rattle.marked.proofs.Computing.{calls, spelled_in}
use Rattle.marked.specs.Marked.{table, four_rows, given, expected}

computed : map given table ≡ map (spelled_in four_rows) table
unfolding calls
computed = refl

spelled : map (spelled_in four_rows) table ≡ map expected table
unfolding calls
spelled = refl

pub marked : map given table ≡ map expected table
marked = computed ∙ spelled
