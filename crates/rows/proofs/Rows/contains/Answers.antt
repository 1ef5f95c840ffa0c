-- `rows::Rows::contains` meets its contract. It asks at the place that the search finds.
use Rattle.base.proofs.Prelude.{◌∙◌}
use Rattle.rows.proofs.SearchLaws.{stands_at}
use Rattle.rows.proofs.Rows.contains.Goals as goal

pub returns : goal.returns
returns g c = c.is_at.ensures ∙ rw c.find.ensures (stands_at _ _)
