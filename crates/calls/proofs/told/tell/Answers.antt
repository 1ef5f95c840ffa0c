-- `tell` meets its contract: each turn tells of one record more.
use Rattle.base.proofs.Prelude.{◌≡◌, ◌-◌, ◌≤◌, suc, length, drop_of_length-le, arith}
use Rattle.calls.proofs.ToldLaws.{says_none, says_back, says_all}
use Rattle.calls.proofs.told.tell.Goals as goal

pub loop-i-init : goal.loop-i-init
loop-i-init c =
    let calls = c.args.calls.now in
    let whole : length calls ≤ length calls = omega arith in
    rw (drop_of_length-le calls whole) (says_none (length calls) c.args.count c.args.address)

pub loop-i-preserved : goal.loop-i-preserved
loop-i-preserved c =
    let more : c.loop-i.i ≡ suc (c.loop-i.i - 1) = omega arith in
    rw c.seen-t.ensures (says_back c.args.calls.now (c.loop-i.i - 1) (omega arith) (rw more at c.loop-i.invariant))

pub returns : goal.returns
returns c =
    let none : c.loop-i.i ≡ 0 = omega arith in
    says_all c.args.calls.now (rw none at c.loop-i.invariant)
