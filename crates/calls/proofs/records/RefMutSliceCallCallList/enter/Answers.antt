-- Records: the method `enter` meets its contract.
use Rattle.base.proofs.Prelude.{arith}
use Rattle.calls.proofs.RecordLaws.{numbers-length}
use Rattle.calls.proofs.records.RefMutSliceCallCallList.enter.Goals as goal

pub returns-clause-places : goal.returns-clause-places
returns-clause-places c = omega (arith, numbers-length c.enter_call.new.calls, numbers-length c.args.self.now.now, c.enter_call.auto.calls)
