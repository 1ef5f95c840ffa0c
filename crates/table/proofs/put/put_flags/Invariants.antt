-- The invariant: the flags before the place are written.
use Rattle.base.proofs.Prelude.{take, ◌∷◌, []}
use Rattle.std.specs.List.{flat_map}
use Rattle.text.specs.Writers.{Wrote}
use Rattle.table.specs.Held.{flag}
use Rattle.table.proofs.put.put_flags.Given as goal

abbrev pub invariant-loop-value : goal.invariant-loop-value
invariant-loop-value l = Wrote l.initial.writer l.writer (flat_map (λ n. flag n ∷ []) (take l.value-index l.values))
