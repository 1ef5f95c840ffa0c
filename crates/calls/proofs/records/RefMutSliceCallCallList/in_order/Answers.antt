-- Records: `in_order` meets its contract. By its two tests, on the calls and on the places behind them.
use Rattle.base.proofs.Prelude.{◌∙◌, sym}
use Rattle.calls.proofs.RecordLaws.{order-parts, order-short}
use Rattle.calls.proofs.records.RefMutSliceCallCallList.in_order.Goals as goal

pub returns-then-is_ascending : goal.returns-then-is_ascending
returns-then-is_ascending c =
    let split = c.in-Some.ensures.cases in
    let first = sym c.is_ascending.ensures ∙ c.if-is_ascending.true in
    rw (← order-parts c.args.count c.args.self.now.now split.0, ← split.1, ← split.2, first) c.are_zero.ensures

pub returns-else-is_ascending : goal.returns-else-is_ascending
returns-else-is_ascending c =
    let split = c.in-Some.ensures.cases in
    let first = sym c.is_ascending.ensures ∙ c.if-is_ascending.false in
    rw (← order-parts c.args.count c.args.self.now.now split.0, ← split.1, first) c.if-is_ascending.false

pub returns-in-None : goal.returns-in-None
returns-in-None c = order-short c.args.count c.args.self.now.now c.in-None.ensures.cases
