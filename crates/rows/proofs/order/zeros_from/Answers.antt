-- `rows::order::zeros_from` meets its contract. By what `all` asks of each number.
use Rattle.base.proofs.Prelude.{◌∙◌, eqb, rules}
use Rattle.std.proofs.Common.{tests}
use Rattle.std.proofs.lemmas.List.{take_rest}
use Rattle.std.proofs.lemmas.Iterator.{YieldsList-from_slice}
use Rattle.std.proofs.lemmas.Iterator.Search.{all_from_yields_List}
use Rattle.rows.proofs.OrderLaws.{zeros-all}
use Rattle.rows.proofs.order.zeros_from.Goals as goal

pub returns : goal.returns
returns c =
    all_from_yields_List (λ x. eqb x 0) _ _ _ c.all.ensures.ran (YieldsList-from_slice _ c.iter.ensures.rest) (λ x b q k. search (rules, tests))
    ∙ rw take_rest (zeros-all _)
