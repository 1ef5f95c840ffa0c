-- The invariant: the rows before the place are written.
use Rattle.base.proofs.Prelude.{take}
use Rattle.std.specs.List.{flat_map}
use Rattle.text.specs.Writers.{Wrote}
use Rattle.table.specs.Held.{flagged}
use Rattle.table.specs.File.{entry}
use Rattle.table.proofs.put.put_entries.Given as goal

abbrev pub invariant-loop-row : goal.invariant-loop-row
invariant-loop-row g l = Wrote l.initial.writer l.writer (flat_map (λ row. entry l.numbers (flagged l.numbers row)) (take l.row-index l.rows))
