-- Records: `is_ascending` meets its contract. By what the library asks of each two neighbours.
use Rattle.base.proofs.Prelude.{ltb, rules}
use Rattle.std.proofs.Common.{tests}
use Rattle.std.proofs.lemmas.Simd.{map-map}
use Rattle.std.proofs.lemmas.List.Sorted.{answers_always}
use Rattle.calls.specs.declared.Call.{Call}
use Rattle.rows.proofs.OrderLaws.{ascends}
use Rattle.calls.proofs.records.is_ascending.Goals as goal

pub returns : goal.returns
returns c =
    rw map-map (ascends (λ (x : Call). x.address) c.args.calls.now c.is_sorted_by.result (c.is_sorted_by.ensures.cases (λ (x y : Call). ltb x.address y.address) (answers_always _ _ _ (λ f a r g k. search (rules, tests)))))
