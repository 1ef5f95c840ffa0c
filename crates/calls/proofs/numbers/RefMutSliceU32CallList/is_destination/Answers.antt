-- Rows of numbers: `is_destination` meets its contract. By what `any` asks of each call.
use Rattle.base.proofs.Prelude.{◌∙◌, List, ℕ, eqb, get_or, rules}
use Rattle.std.proofs.Common.{tests}
use Rattle.std.proofs.lemmas.List.{map-id}
use Rattle.std.proofs.lemmas.Iterator.{YieldsList-from_slice}
use Rattle.std.proofs.lemmas.Iterator.Search.{any_from_yields_List}
use Rattle.calls.proofs.DestinationLaws.{goes-any}
use Rattle.calls.proofs.numbers.RefMutSliceU32CallList.is_destination.Goals as goal

pub returns : goal.returns
returns c =
    any_from_yields_List (λ call. eqb (get_or call 2 0) c.args.address) _ _ _ c.any.ensures.ran (YieldsList-from_slice _ c.iter.ensures.rest) (λ x b q k. search (rules, tests))
    ∙ rw c.new.ensures (goes-any (λ (call : List ℕ). call) c.args.address _ ∙ rw map-id)
