-- `lists::Lists::zero` meets its contract.
use Rattle.lists.specs.Lists.{lists_of}
use Rattle.lists.proofs.Laws.{all_zeroed}
use Rattle.lists.proofs.Lists.zero.Goals as goal

pub returns-clause-zeros : goal.returns-clause-zeros
returns-clause-zeros g c =
    all_zeroed (lists_of g.C.CallList.numbers c.args.self.now) c.zero.ensures c.zero-2.ensures c.zero-3.ensures c.zero-4.ensures c.zero-5.ensures.zeros
