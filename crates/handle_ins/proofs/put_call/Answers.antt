-- `handle_ins::put_call` meets its contract.
use Rattle.base.proofs.Prelude.{refl}
use Rattle.handle_ins.proofs.Laws.{stores-call}
use Rattle.handle_ins.proofs.put_call.Goals as goal

pub returns-in-Some-clause-stored : goal.returns-in-Some-clause-stored
returns-in-Some-clause-stored g c = stores-call c.args.count _ c.args.r _ c.in-Some.is (rw c.from.ensures at c.enter.ensures.entered) refl
