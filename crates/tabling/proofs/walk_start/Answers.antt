-- `walk_start` meets its contract: by the walk's answer.
use Rattle.base.proofs.Prelude.{refl, arith}
use Rattle.text.proofs.Writers.{wrote_none}
use Rattle.tabling.proofs.TakeLaws.{accepted-few, accepted-line, accepted-takes, accepted-never, refused-takes, refused-line}
use Rattle.tabling.proofs.walk_start.Goals as goal

pub minus-requires : goal.minus-requires
minus-requires c = accepted-few _ _ _ _ _ _ c.requires.ready _ c.requires.starts _ c.no_counts.ensures _ _ c.run-ran.ensures.called _ c.in-Accepted.is

pub returns-then-is_err-clause-took : goal.returns-then-is_err-clause-took
returns-then-is_err-clause-took c =
    absurd (accepted-never _ _ _ _ _ _ c.requires.ready _ c.requires.starts _ c.no_counts.ensures _ _ c.run-ran.ensures.called _ c.in-Accepted.is _ _ c.append.ensures.appended
    c.if-is_err.ensures.value)

pub returns-then-is_err-clause-line : goal.returns-then-is_err-clause-line
returns-then-is_err-clause-line c =
    absurd (accepted-never _ _ _ _ _ _ c.requires.ready _ c.requires.starts _ c.no_counts.ensures _ _ c.run-ran.ensures.called _ c.in-Accepted.is _ _ c.append.ensures.appended
    c.if-is_err.ensures.value)

pub returns-else-is_err-clause-took : goal.returns-else-is_err-clause-took
returns-else-is_err-clause-took c =
    rw c.minus.ensures
    (accepted-takes _ _ _ _ _ _ c.requires.ready _ c.requires.starts _ c.no_counts.ensures _ _ c.run-ran.ensures.called _ c.in-Accepted.is _ _ c.append.ensures.appended)

pub returns-else-is_err-clause-line : goal.returns-else-is_err-clause-line
returns-else-is_err-clause-line c = (
  rw (accepted-line _ _ _ _ _ _ c.requires.ready _ c.requires.starts _ c.no_counts.ensures _ _ c.run-ran.ensures.called _ c.in-Accepted.is) (wrote_none _),
  omega arith,
)

pub returns-in-Refused-clause-took : goal.returns-in-Refused-clause-took
returns-in-Refused-clause-took c = refused-takes _ _ _ _ _ _ c.requires.ready _ c.requires.starts _ c.no_counts.ensures _ _ c.run-ran.ensures.called _ c.in-Refused.is refl

pub returns-in-Refused-clause-line : goal.returns-in-Refused-clause-line
returns-in-Refused-clause-line c = (
  rw (refused-line _ _ _ _ _ _ c.requires.ready _ c.requires.starts _ c.no_counts.ensures _ _ c.run-ran.ensures.called _ c.in-Refused.is) c.put_start.ensures.0,
  c.put_start.ensures.1,
)

pub returns-in-Going-clause-took : goal.returns-in-Going-clause-took
returns-in-Going-clause-took c = refused-takes _ _ _ _ _ _ c.requires.ready _ c.requires.starts _ c.no_counts.ensures _ _ c.run-ran.ensures.called _ c.in-Going.is refl

pub returns-in-Going-clause-line : goal.returns-in-Going-clause-line
returns-in-Going-clause-line c = (
  rw (refused-line _ _ _ _ _ _ c.requires.ready _ c.requires.starts _ c.no_counts.ensures _ _ c.run-ran.ensures.called _ c.in-Going.is) (wrote_none _),
  omega arith,
)
