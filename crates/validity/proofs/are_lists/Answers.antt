-- `validity::are_lists` meets its contract.
use Rattle.base.proofs.Prelude.{◌∙◌, sym, arith}
use Rattle.validity.proofs.Laws.{order-held}
use Rattle.validity.proofs.are_lists.Goals as goal

pub new-requires : goal.new-requires
new-requires g c =
    let held = order-held _ _ (sym c.in_order.ensures ∙ c.if-in_order.true) in
    (omega arith, (rw c.pools.ensures held.pools, omega arith))
