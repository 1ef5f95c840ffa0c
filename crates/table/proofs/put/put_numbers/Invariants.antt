-- The invariant: the numbers before the place are written.
use Rattle.base.proofs.Prelude.{take}
use Rattle.std.specs.List.{flat_map}
use Rattle.text.specs.Writers.{Wrote}
use Rattle.table.specs.File.{number}
use Rattle.table.proofs.put.put_numbers.Given as goal

abbrev pub invariant-loop-value : goal.invariant-loop-value
invariant-loop-value l = Wrote l.initial.writer l.writer (flat_map number (take l.value-index l.values))
