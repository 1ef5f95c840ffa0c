-- `walk_on` meets its contract. The loop's invariant: so many turns have led here. The measure is what is left of the address space, and nothing
-- once the walk has a result.
use Rattle.base.proofs.Prelude.{◌∙◌, sym, arith}
use Rattle.lists.proofs.Same.{same_start, same_then}
use Rattle.whole.proofs.OnLaws.{on-start, on-more, on-less, on-end}
use Rattle.whole.proofs.walk_on.Goals as goal

pub loop-m-init : goal.loop-m-init
loop-m-init g c = (same_start g.met.C.CallList.unmoved c.args.lists.now, on-start _ _ _ _ _ c.requires.1 c.requires.2)

pub turn-here-requires : goal.turn-here-requires
turn-here-requires g c = (c.requires.0, c.loop-m.invariant.1.holds, c.loop-m.invariant.1.within)

pub loop-m-smaller : goal.loop-m-smaller
loop-m-smaller g c =
    on-less _ _ _ _ _ _ _ c.loop-m.invariant.1 (sym c.is_going.ensures ∙ c.loop-m-test.true) _ _ c.turn-here.ensures.turns (omega arith)

pub loop-m-preserved : goal.loop-m-preserved
loop-m-preserved g c = (
  same_then g.met.C.CallList.twice c.loop-m.invariant.0 c.turn-here.ensures.same,
  on-more _ _ _ _ _ _ _ c.loop-m.invariant.1 (sym c.is_going.ensures ∙ c.loop-m-test.true) _ _ c.turn-here.ensures.turns,
)

pub returns-clause-turns : goal.returns-clause-turns
returns-clause-turns g c = on-end _ _ _ _ _ _ _ c.loop-m.invariant.1 (sym c.is_going.ensures ∙ c.loop-m-test.false)
