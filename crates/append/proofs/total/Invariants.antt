-- The invariant: the sum so far is that of the rows so far, and not above what it may be.
use Rattle.base.proofs.Prelude.{◌≡◌, ◌≤◌, take}
use Rattle.append.specs.Append.{total}
use Rattle.append.proofs.total.Given as goal

abbrev pub invariant-loop-row : goal.invariant-loop-row
invariant-loop-row l = record {
  sum : l.sum ≡ total l.at (take l.row-index l.rows);
  few : l.sum ≤ l.most;
}
