-- `rows::Rows::index_of` meets its contract. It asks at the place that the search finds.
use Rattle.rows.specs.Map.{index_of}
use Rattle.rows.proofs.SearchLaws.{stands_at, then-pick}
use Rattle.rows.proofs.Rows.index_of.Goals as goal

pub returns : goal.returns
unfolding index_of
returns g c = rw (c.then_some.ensures, c.is_at.ensures, c.find-at.ensures, stands_at) (then-pick _ _)
