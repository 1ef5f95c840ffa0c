-- `rows::order::is_ascending` meets its contract. By what the library asks of each two neighbours; a row among others is no longer than the slice.
use Rattle.base.proofs.Prelude.{◌≤◌, ◌<◌, ◌*◌, ◌/◌, ◌^◌, List, ℕ, ltb, length, rules, arith}
use Rattle.std.proofs.Common.{tests}
use Rattle.std.proofs.lemmas.List.Sorted.{answers_always}
use denote.Param.Always.{mut_total}
use native.Mathlib.Nat.{le-div_iff_mul-le}
use Rattle.rows.specs.Map.{key_of, map_in}
use Rattle.rows.specs.Order.{ascending}
use Rattle.rows.proofs.MapLaws.{chunks-are, row_fits}
use Rattle.rows.proofs.OrderLaws.{ascends}
use Rattle.rows.proofs.order.is_ascending.Goals as goal

pub returns-then-count-eq0 : goal.returns-then-count-eq0
unfolding ascending map_in
returns-then-count-eq0 g c = rw c.if-count-eq0.true

pub as_chunks-requires : goal.as_chunks-requires
as_chunks-requires g c =
    let size : length c.args.list.now * 4 < 2 ^ 63 = search rules in
    (omega (arith, row_fits 0 c.args.count g.row.STRIDE (omega arith) c.requires.1), c.requires.0)

pub is_sorted_by-requires : goal.is_sorted_by-requires
is_sorted_by-requires g c =
    let some : 0 < g.row.STRIDE = c.requires.0 in
    mut_total _ _ (λ s a. search rules)

pub returns : goal.returns
returns g c =
    let room : c.args.count ≤ length c.args.list.now / g.row.STRIDE = (le-div_iff_mul-le {k = g.row.STRIDE} {x = c.args.count} {y = length c.args.list.now} c.requires.0).1 c.requires.1 in
    rw (c.as_chunks.ensures.front, chunks-are g.row.STRIDE c.args.count (length c.args.list.now / g.row.STRIDE) c.args.list.now room)
    at (ascends key_of _ c.is_sorted_by.result (c.is_sorted_by.ensures.cases (λ (x y : List ℕ). ltb (key_of x) (key_of y)) (answers_always _ _ _ (λ f a r g k. search (rules, tests)))))
