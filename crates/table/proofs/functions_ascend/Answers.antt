-- `functions_ascend` meets its contract. By what the library asks of each two neighbours.
use Rattle.base.proofs.Prelude.{List, ℕ, ltb, rules}
use Rattle.std.proofs.Common.{tests}
use Rattle.std.proofs.lemmas.List.Sorted.{answers_always}
use Rattle.rows.proofs.OrderLaws.{ascends}
use Rattle.table.specs.Split.{first_of}
use Rattle.table.proofs.functions_ascend.Goals as goal

pub returns : goal.returns
returns c =
    ascends first_of _ c.is_sorted_by.result
    (c.is_sorted_by.ensures.cases (λ (x y : List ℕ). ltb (first_of x) (first_of y)) (answers_always _ _ _ (λ f a r g k. search (rules, tests))))
