-- `calls::enter` meets its contract.
use Rattle.base.proofs.Prelude.{false}
use Rattle.calls.specs.Records.{none}
use Rattle.calls.proofs.EditLaws.{rewritten-none, full_is, room-is}
use Rattle.calls.proofs.told.enter.Goals as goal

pub returns-then-t-last : goal.returns-then-t-last
returns-then-t-last c =
    λ calls n w h. rw (c.clear.ensures, rewritten-none false none 0 calls) (full_is c.args.t c.args.call calls n w h c.last_of-last.ensures c.if-t-last.true)

pub returns : goal.returns
returns c =
    λ calls n w h. rw c.count_of.ensures (room-is c.args.t c.args.call calls n w h c.last_of-last.ensures c.if-t-last.false)
