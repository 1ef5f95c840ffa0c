-- `validity::are_whole` meets its contract. By what `all` asks of each pool.
use Rattle.base.proofs.Prelude.{◌∙◌, get_or, rules}
use Rattle.std.proofs.Common.{tests}
use Rattle.std.proofs.lemmas.Iterator.{YieldsList-from_slice}
use Rattle.std.proofs.lemmas.Iterator.Search.{all_from_yields_List}
use Rattle.validity.specs.Validity.{is_whole}
use Rattle.validity.proofs.Laws.{whole-all}
use Rattle.validity.proofs.are_whole.Goals as goal

pub returns : goal.returns
returns c =
    all_from_yields_List (λ pool. is_whole c.args.base c.args.length (get_or pool 0 0)) _ _ _ c.all.ensures.ran (YieldsList-from_slice _ c.iter.ensures.rest) (λ x b q k. search (rules, tests))
    ∙ whole-all _ _ _
