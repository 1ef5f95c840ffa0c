-- Records: `zero` meets its contract.
use Rattle.base.proofs.Prelude.{◌≡◌, length, replicate, rules}
use Rattle.calls.specs.Records.{none}
use Rattle.calls.proofs.RecordLaws.{zeroed}
use Rattle.calls.proofs.records.RefMutSliceCallCallList.zero.Goals as goal

pub returns-clause-zeros : goal.returns-clause-zeros
returns-clause-zeros c =
    let filled : c.fill.new.self ≡ replicate (length c.args.self.now.now) none = search rules in
    rw filled (zeroed c.args.self.now.now)
