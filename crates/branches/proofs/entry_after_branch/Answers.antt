-- `branches::entry_after_branch` meets its contract.
use Rattle.base.proofs.Prelude.{refl}
use Rattle.context.specs.Blocks.{entry_after_branch}
use Rattle.branches.proofs.entry_after_branch.Goals as goal

pub returns-then-is_entry_after_branch : goal.returns-then-is_entry_after_branch
unfolding entry_after_branch
returns-then-is_entry_after_branch c = λ l h. rw (c.end.ensures, ← c.is_entry_after_branch.ensures, c.if-is_entry_after_branch.true) (record { stays = refl; call = refl; holds = h; says = refl })

pub returns : goal.returns
unfolding entry_after_branch
returns c = λ l h. rw (c.on.ensures, ← c.is_entry_after_branch.ensures, c.if-is_entry_after_branch.false) (record { stays = refl; call = refl; holds = h; says = refl })
