-- Records: `are_zero` meets its contract. By what `all` asks of each record.
use Rattle.base.proofs.Prelude.{◌∙◌, rules}
use Rattle.std.proofs.Common.{tests}
use Rattle.std.proofs.lemmas.Iterator.{YieldsList-from_slice}
use Rattle.std.proofs.lemmas.Iterator.Search.{all_from_yields_List}
use Rattle.calls.specs.Records.{is_none}
use Rattle.calls.proofs.RecordLaws.{zeros-all}
use Rattle.calls.proofs.records.are_zero.Goals as goal

pub returns : goal.returns
returns c =
    all_from_yields_List is_none _ _ _ c.all.ensures.ran (YieldsList-from_slice _ c.iter.ensures.rest) (λ x b q k. search (rules, tests))
    ∙ zeros-all c.args.calls.now
