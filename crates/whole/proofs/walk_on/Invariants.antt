-- `walk_on` meets its contract. The loop's invariant: so many turns have led here. The measure is what is left of the address space, and nothing
-- once the walk has a result.
use Rattle.lists.specs.Lists.{lists_of, IsSame}
use Rattle.whole.proofs.OnLaws.{On, left}
use Rattle.whole.proofs.walk_on.Given as goal

abbrev pub invariant-loop-m : goal.invariant-loop-m
invariant-loop-m g l =
    IsSame g.C.CallList.is_same l.initial.lists l.lists
    × On l.m.options l.m.code.now l.m.starts.now l.initial.here (lists_of g.C.CallList.numbers l.initial.lists) l.here (lists_of g.C.CallList.numbers l.lists)

abbrev pub decreases-loop-m : goal.decreases-loop-m
decreases-loop-m g l = left l.here.result l.here.progress.address
