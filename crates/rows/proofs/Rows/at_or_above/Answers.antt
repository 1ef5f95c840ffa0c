-- `rows::Rows::at_or_above` meets its contract. By its one test.
use Rattle.rows.specs.Map.{at_or_above}
use Rattle.rows.proofs.SearchLaws.{then-pick}
use Rattle.rows.proofs.Rows.at_or_above.Goals as goal

pub returns : goal.returns
unfolding at_or_above
returns g c = rw (c.then_some.ensures, c.find-at.ensures) (then-pick _ _)
