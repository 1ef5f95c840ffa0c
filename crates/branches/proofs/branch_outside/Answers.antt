-- `branches::branch_outside` meets its contract.
use Rattle.base.proofs.Prelude.{refl}
use Rattle.context.specs.Blocks.{branch_outside}
use Rattle.branches.proofs.branch_outside.Goals as goal
use Rattle.branches.proofs.branch_outside.Goals.{else-is_branch-via-then-is_branch+else-not-is_in, else-is_branch-via-else-is_branch}

pub returns-then-not-is_in : goal.returns-then-not-is_in
unfolding branch_outside
returns-then-not-is_in c = λ l h. rw (c.refuse.ensures, ← c.is_branch.ensures, c.if-is_branch.true, ← c.is_in.ensures, c.if-not-is_in.true) (record { stays = refl; call = refl; holds = h; says = refl })

pub returns : goal.returns
unfolding branch_outside
returns c =
    λ l h. rw (c.on.ensures, ← c.is_branch.ensures)
    (elim c.else-is_branch.branch [
      | else-is_branch-via-then-is_branch+else-not-is_in w ↦ rw (w.if-is_branch.true, ← w.is_in.ensures, w.if-not-is_in.false) (record { stays = refl; call = refl; holds = h; says = refl })
      | else-is_branch-via-else-is_branch w ↦ rw (w.if-is_branch.false) (record { stays = refl; call = refl; holds = h; says = refl })
    ])
