-- `validity::are_held` meets its contract. By what `all` asks of each register's pool.
use Rattle.base.proofs.Prelude.{◌∙◌, eqb, rules}
use Rattle.std.proofs.Common.{tests}
use Rattle.std.proofs.lemmas.Iterator.{YieldsList-from_slice}
use Rattle.std.proofs.lemmas.Iterator.Search.{all_from_yields_List}
use Rattle.base.specs.Choice.{either}
use Rattle.rows.specs.Map.{stands-in}
use Rattle.validity.proofs.Laws.{held-all}
use Rattle.validity.proofs.are_held.Goals as goal

pub returns : goal.returns
returns c =
    all_from_yields_List (λ source. either (eqb source 0) (stands-in c.args.pools.now.rows.now source)) _ _ _ c.all.ensures.ran (YieldsList-from_slice _ c.iter.ensures.rest) (λ x b q k. search (rules, tests))
    ∙ held-all _ _
