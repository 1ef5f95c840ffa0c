-- `calls::seen` meets its contract.
use Rattle.base.proofs.Prelude.{lt-ltb, le-leb, le-ltb, lt-leb}
use Rattle.calls.specs.Records.{seen_by}
use Rattle.calls.proofs.told.seen.Goals as goal

pub returns-then-t-i : goal.returns-then-t-i
unfolding seen_by
returns-then-t-i c = rw (le-leb _ _ c.if-t-i.true, c.is_none.ensures)

pub returns-then-c-t : goal.returns-then-c-t
unfolding seen_by
returns-then-c-t c = rw (lt-leb _ _ c.if-t-i.false, lt-ltb _ _ c.if-c-t.true)

pub returns : goal.returns
unfolding seen_by
returns c = rw (lt-leb _ _ c.if-t-i.false, le-ltb _ _ c.if-c-t.false)
