-- Records: `is_destination` meets its contract. By what `any` asks of each call.
use Rattle.base.proofs.Prelude.{◌∙◌, eqb, rules}
use Rattle.std.proofs.Common.{tests}
use Rattle.std.proofs.lemmas.Iterator.{YieldsList-from_slice}
use Rattle.std.proofs.lemmas.Iterator.Search.{any_from_yields_List}
use Rattle.calls.specs.declared.Call.{Call}
use Rattle.calls.specs.Records.{row_of}
use Rattle.calls.proofs.DestinationLaws.{goes-any}
use Rattle.calls.proofs.RecordLaws.{held-rows}
use Rattle.calls.proofs.records.RefMutSliceCallCallList.is_destination.Goals as goal

pub returns : goal.returns
returns c =
    any_from_yields_List (λ (call : Call). eqb call.destination c.args.address) _ _ _ c.any.ensures.ran (YieldsList-from_slice _ c.iter.ensures.rest) (λ x b q k. search (rules, tests))
    ∙ rw (held-rows c.args.self.now.now c.requires) (goes-any row_of c.args.address _)
