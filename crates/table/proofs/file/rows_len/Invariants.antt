-- The invariant: the bytes of the functions before the place, or the highest number.
use Rattle.base.proofs.Prelude.{◌≡◌, take, ◌-◌, ◌^◌}
use Rattle.std.specs.Prelude.{min}
use Rattle.table.specs.Own.{rows_len}
use Rattle.table.proofs.file.rows_len.Given as goal

abbrev pub invariant-loop-row : goal.invariant-loop-row
invariant-loop-row l = l.len ≡ min (rows_len (take l.row-index l.rows)) (2 ^ 64 - 1)
