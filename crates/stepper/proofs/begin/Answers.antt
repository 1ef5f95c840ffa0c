-- `stepper::begin` meets its contract.
use Rattle.base.proofs.Prelude.{refl}
use Rattle.stepper.specs.Stepper.{begin}
use Rattle.stepper.proofs.begin.Goals as goal

pub returns-in-Err-clause-called : goal.returns-in-Err-clause-called
unfolding begin
returns-in-Err-clause-called g c =
    rw (← c.begin.ensures, c.in-Err.is) (record { walks = c.new.ensures; answers = c.refused.ensures; holds = refl })

pub returns-clause-called : goal.returns-clause-called
unfolding begin
returns-clause-called g c =
    rw (← c.begin.ensures, c.in_default.is)
    (record { walks = rw (c.new-2.ensures, c.no_counts.ensures); answers = refl; holds = c.zero.ensures.zeros })
