-- `Registers::forget` meets its contract.
use Rattle.base.proofs.Prelude.{arith}
use Rattle.registers.specs.Registers.{forgotten}
use Rattle.registers.proofs.RegisterLaws.{forget_lowest, none_forgotten}
use Rattle.registers.proofs.Registers.forget.Goals as goal

pub loop-rest-preserved : goal.loop-rest-preserved
unfolding forgotten
loop-rest-preserved c =
    let turn = c.loop-rest in
    rw (forget_lowest 16 turn.rest turn.self.values (omega arith) (omega arith), forget_lowest 16 turn.rest turn.self.sources (omega arith) (omega arith)) turn.invariant

pub returns : goal.returns
unfolding forgotten
returns c =
    let end = c.loop-rest in
    rw (c.loop-rest-test.false, none_forgotten end.self.values, none_forgotten end.self.sources) at end.invariant
