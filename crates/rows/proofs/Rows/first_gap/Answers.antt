-- `rows::Rows::first_gap` meets its contract. The loop's invariant: what is left of the run leads to the same answer, and the next address's place is not passed.
use Rattle.base.proofs.Prelude.{◌∙◌, arith}
use Rattle.rows.proofs.SearchLaws.{scan-start, scan-gap, scan-beyond, scan-held, scan-passed}
use Rattle.rows.proofs.Rows.first_gap.Goals as goal
use Rattle.rows.proofs.Rows.first_gap.Goals.{then-key-next+in_ok-next, else-key-next}

pub loop-at-init : goal.loop-at-init
loop-at-init g c = scan-start _ c.args.self.now.rises _ _ (omega arith) c.find-at.ensures

pub returns-then-next-key : goal.returns-then-next-key
returns-then-next-key g c =
    let turn = c.loop-at in
    scan-gap c.args.self.now.rows.now c.args.self.now.rises c.args.address turn.next turn.at turn.invariant (λ _. c.if-next-key.true)

pub returns-in_err-next : goal.returns-in_err-next
returns-in_err-next g c =
    let turn = c.loop-at in
    c.from_residual.ensures ∙ scan-beyond c.args.self.now.rows.now c.args.self.now.rises c.args.address turn.next turn.at turn.invariant (omega arith) c.if-key-next.true (omega (arith, c.in_err-next.ensures))

pub loop-at-preserved : goal.loop-at-preserved
loop-at-preserved g c =
    let turn = c.loop-at in
    let m = c.args.self.now.rows.now in
    elim c.if-key-next.branch [
      | then-key-next+in_ok-next w ↦ rw (w.next-is, w.in_ok-next.ensures.1) (scan-held m c.args.self.now.rises c.args.address turn.next turn.at turn.invariant (omega arith) w.if-key-next.true w.in_ok-next.ensures.0)
      | else-key-next w ↦ rw w.next-is (scan-passed m c.args.self.now.rises c.args.address turn.next turn.at turn.invariant (omega arith) (omega arith))
    ]

pub returns : goal.returns
returns g c =
    let turn = c.loop-at in
    scan-gap c.args.self.now.rows.now c.args.self.now.rises c.args.address turn.next turn.at turn.invariant (λ h. absurd (omega arith))
