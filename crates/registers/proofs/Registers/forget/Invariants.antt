-- `Registers::forget` meets its contract. The loop's invariant: to clear what is left of the set leads to the same columns.
use Rattle.base.proofs.Prelude.{◌≡◌}
use Rattle.registers.specs.Registers.{forgotten}
use Rattle.registers.proofs.Registers.forget.Given as goal

abbrev pub invariant-loop-rest : goal.invariant-loop-rest
invariant-loop-rest l = forgotten l.self l.rest ≡ forgotten l.initial.self l.set

abbrev pub decreases-loop-rest : goal.decreases-loop-rest
decreases-loop-rest l = l.rest
