-- `rows::Rows::is_at` meets its contract. By its one test.
use Rattle.base.proofs.Prelude.{arith, lt-ltb, le-ltb}
use Rattle.rows.specs.Map.{holds_at}
use Rattle.rows.proofs.Rows.is_at.Goals as goal

pub returns-then-at-self : goal.returns-then-at-self
unfolding holds_at
returns-then-at-self g c = rw (lt-ltb _ _ c.if-at-self.true) (search arith)

pub returns-else-at-self : goal.returns-else-at-self
unfolding holds_at
returns-else-at-self g c = rw (le-ltb _ _ c.if-at-self.false) (search arith)
