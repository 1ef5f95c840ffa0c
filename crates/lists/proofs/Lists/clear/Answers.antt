-- `lists::Lists::clear` meets its contract.
use Rattle.lists.specs.Lists.{lists_of}
use Rattle.lists.proofs.Laws.{all_zeroed}
use Rattle.lists.proofs.Lists.clear.Goals as goal

pub returns-clause-zeros : goal.returns-clause-zeros
returns-clause-zeros g c =
    all_zeroed (lists_of g.C.CallList.numbers c.args.self.now) c.clear.ensures c.clear-2.ensures c.clear-3.ensures c.clear-4.ensures c.clear-5.ensures.zeros
