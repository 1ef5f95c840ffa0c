-- `run` meets its contract: by whether the begin went on.
use Rattle.base.proofs.Prelude.{◌∙◌, sym}
use Rattle.whole.proofs.WholeLaws.{run-refused, run-may, run_on}
use Rattle.whole.proofs.run.Goals as goal

pub returns-then-not-is_going-clause-called : goal.returns-then-not-is_going-clause-called
returns-then-not-is_going-clause-called g c = run-refused c.args.m _ _ _ _ _ c.begin-begun.ensures.called (sym c.is_going.ensures ∙ c.if-not-is_going.true)

pub walk_on-walk-requires : goal.walk_on-walk-requires
walk_on-walk-requires g c = run-may c.args.m _ _ _ _ _ c.begin-begun.ensures.called (sym c.is_going.ensures ∙ c.if-not-is_going.false)

pub returns-clause-called : goal.returns-clause-called
returns-clause-called g c =
    run_on c.args.m _ _ _ _ _ c.begin-begun.ensures.called (sym c.is_going.ensures ∙ c.if-not-is_going.false) _ _ c.walk_on-walk.ensures.turns
