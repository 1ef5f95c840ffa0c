-- `branches::final_return` meets its contract.
use Rattle.base.proofs.Prelude.{refl}
use Rattle.context.specs.Blocks.{final_return, is_tail_call}
use Rattle.context.specs.State.{code_in, options_in}
use Rattle.context.proofs.Laws.{settled}
use Rattle.branches.proofs.BranchLaws.{long-branch, tail-call}
use Rattle.branches.proofs.final_return.Goals as goal
use Rattle.branches.proofs.final_return.Goals.{then-inside-via-then-inside, then-inside-via-else-inside+then-not-returns}

pub returns-then-inside : goal.returns-then-inside
unfolding final_return
returns-then-inside c =
    λ l told h. rw c.on.ensures
    (elim c.then-inside.branch [
      | then-inside-via-then-inside w ↦ rw (w.if-inside.true) (settled (record { stays = refl; call = refl; holds = h; says = refl }))
      | then-inside-via-else-inside+then-not-returns w ↦
          rw (w.if-inside.false, w.if-not-returns.true) (settled (record { stays = refl; call = refl; holds = h; says = refl }))
    ])

pub returns-then-is_long_branch : goal.returns-then-is_long_branch
unfolding final_return
returns-then-is_long_branch c =
    λ l told h.
    let world = code_in c.args.m.code.now (options_in c.args.m.options l) in
    let long = long-branch c.args.parsed.size c.args.is_called_next c.args.s world c.if-inside.false (c.if-not-returns.false) told in
    rw (c.on-then-is_long_branch.ensures, c.raise.ensures, ← long, ← c.is_long_branch.ensures, c.if-is_long_branch.true, c.if-inside.false, c.if-not-returns.false)
    (settled (record { stays = refl; call = refl; holds = h; says = refl }))

pub returns-then-is_tail_call : goal.returns-then-is_tail_call
unfolding final_return is_tail_call
returns-then-is_tail_call c =
    λ l told h.
    let world = code_in c.args.m.code.now (options_in c.args.m.options l) in
    let long = long-branch c.args.parsed.size c.args.is_called_next c.args.s world c.if-inside.false (c.if-not-returns.false) told in
    rw (← long, ← c.is_long_branch.ensures, c.if-is_long_branch.false, c.if-inside.false, c.if-not-returns.false, ← c.is_tail_call.ensures, c.if-is_tail_call.true)
    (tail-call c.args.parsed.ins c.args.s c.args.parsed.word world c.with_call.ensures c.end.ensures h)

pub returns : goal.returns
unfolding final_return is_tail_call
returns c =
    λ l told h.
    let world = code_in c.args.m.code.now (options_in c.args.m.options l) in
    let long = long-branch c.args.parsed.size c.args.is_called_next c.args.s world c.if-inside.false (c.if-not-returns.false) told in
    rw (c.end-2.ensures, ← long, ← c.is_long_branch.ensures, c.if-is_long_branch.false, c.if-inside.false, c.if-not-returns.false, ← c.is_tail_call.ensures, c.if-is_tail_call.false)
    (settled (record { stays = refl; call = refl; holds = h; says = refl }))
