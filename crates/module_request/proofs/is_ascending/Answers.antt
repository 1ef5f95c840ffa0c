-- `is_ascending` meets its contract. By what the library asks of each two neighbours.
use Rattle.base.proofs.Prelude.{List, ℕ, ltb, rules}
use Rattle.std.proofs.Common.{tests}
use Rattle.std.proofs.lemmas.List.Sorted.{answers_always}
use Rattle.rows.proofs.OrderLaws.{ascends}
use Rattle.module_request.specs.ModuleRequest.{start_of}
use Rattle.module_request.proofs.is_ascending.Goals as goal

pub returns : goal.returns
returns c =
    ascends start_of _ c.is_sorted_by.result
    (c.is_sorted_by.ensures.cases (λ (x y : List ℕ). ltb (start_of x) (start_of y)) (answers_always _ _ _ (λ f a r g k. search (rules, tests))))
