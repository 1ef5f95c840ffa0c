-- The loop's invariant: what is left to write leads to the same records.
use Rattle.base.proofs.Prelude.{◌≡◌, ◌≤◌, length}
use Rattle.calls.specs.Records.{rewritten, edited}
use Rattle.calls.proofs.told.put.Given as goal

abbrev pub invariant-loop-i : goal.invariant-loop-i
invariant-loop-i l = (l.end ≤ length l.calls) × (rewritten l.e.moves l.call l.i l.end l.calls ≡ edited l.e l.fn.calls)
