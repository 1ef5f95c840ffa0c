-- `rows::Rows::first_gap` meets its contract. The loop's invariant: what is left of the run leads to the same answer, and the next address's place is not passed.
use Rattle.rows.proofs.SearchLaws.{Scanned}
use Rattle.rows.proofs.Rows.first_gap.Given as goal

abbrev pub invariant-loop-at : goal.invariant-loop-at
invariant-loop-at g l = Scanned l.self.rows.now l.address l.next l.at
