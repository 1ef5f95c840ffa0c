-- The invariant: the answer is that of the functions to come, with what is left of the lists.
use Rattle.base.proofs.Prelude.{◌≡◌, drop}
use Rattle.table.specs.Held.{lists_of}
use Rattle.table.specs.Split.{entries_sound}
use Rattle.table.proofs.entries_ascend.Given as goal

abbrev pub invariant-loop-row : goal.invariant-loop-row
invariant-loop-row l = entries_sound l.rows (lists_of l.entries) ≡ entries_sound (drop l.row-index l.rows) (lists_of l.left)
