-- `stepper::step` meets its contract.
use Rattle.base.proofs.Prelude.{◌∙◌, sym, refl}
use Rattle.lists.specs.Lists.{lists_of}
use Rattle.stepper.specs.Stepper.{step}
use Rattle.stepper.proofs.Laws.{called-turned, turn-may}
use Rattle.stepper.proofs.step.Goals as goal

pub returns-then-not-is_going-clause-called : goal.returns-then-not-is_going-clause-called
unfolding step
returns-then-not-is_going-clause-called g c = rw (sym c.is_going.ensures ∙ c.if-not-is_going.true) (record { walks = refl; answers = refl; holds = refl })

pub returns-in-Err-clause-called : goal.returns-in-Err-clause-called
unfolding step
returns-in-Err-clause-called g c =
    rw (sym c.is_going.ensures ∙ c.if-not-is_going.false, ← c.step.ensures, c.in-Err.is) (record { walks = refl; answers = c.refused.ensures; holds = refl })

pub turn-walk-requires : goal.turn-walk-requires
turn-walk-requires g c = turn-may c.args.m c.args.w (lists_of g.C.CallList.numbers c.args.lists.now) (sym c.step.ensures ∙ c.in_default.is)

pub returns-clause-called : goal.returns-clause-called
unfolding step
returns-clause-called g c =
    rw (sym c.is_going.ensures ∙ c.if-not-is_going.false, ← c.step.ensures, c.in_default.is) (called-turned c.turn-walk.ensures.turns)
