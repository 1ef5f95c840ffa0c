-- The loop's invariant: t tells of the records from i on.
use Rattle.base.proofs.Prelude.{length, drop}
use Rattle.calls.proofs.ToldLaws.{Says}
use Rattle.calls.proofs.told.tell.Given as goal

abbrev pub invariant-loop-i : goal.invariant-loop-i
invariant-loop-i l = Says (length l.calls) l.count l.address l.i (drop l.i l.calls) l.t
