-- `put` meets its contract: each turn writes one place, and leaves what is left to write.
use Rattle.base.proofs.Prelude.{◌∙◌, sym, arith, length-set}
use Rattle.calls.proofs.EditLaws.{rewritten-least, rewritten-back, rewritten-end}
use Rattle.calls.proofs.told.put.Goals as goal
use Rattle.calls.proofs.told.put.Goals.{then-e, else-e}

pub loop-i-init : goal.loop-i-init
loop-i-init c =
    let e = c.args.e in
    (omega (arith, c.min-end.ensures), rewritten-least e.moves e.call e.from e.end c.args.calls.now c.min-end.ensures)

pub loop-i-preserved : goal.loop-i-preserved
loop-i-preserved c =
    let t = c.loop-i in (
      omega (arith, length-set t.calls t.i t.call),
      elim c.if-e.branch [
        | then-e w ↦ rw w.call-is (rewritten-back w.if-e.true t.call t.i c.min-end.result t.calls c.loop-i-test.true (omega arith) ∙ t.invariant.1)
        | else-e w ↦ rw w.call-is (rewritten-back w.if-e.false t.call t.i c.min-end.result t.calls c.loop-i-test.true (omega arith) ∙ t.invariant.1)
      ],
    )

pub returns : goal.returns
returns c =
    let t = c.loop-i in
    sym (rewritten-end c.args.e.moves t.call t.i c.min-end.result t.calls (omega arith)) ∙ t.invariant.1
