-- `values::illegal_code` meets its contract.
use Rattle.base.proofs.Prelude.{refl}
use Rattle.context.specs.Blocks.{illegal_code}
use Rattle.values.proofs.Laws.{legal}
use Rattle.values.proofs.illegal_code.Goals as goal

pub returns-in-Illegal : goal.returns-in-Illegal
unfolding illegal_code
returns-in-Illegal c =
    λ l h. rw (c.refuse.ensures, c.illegal_code_to-t.ensures, ← c.handle-next.ensures, c.in-Illegal.is)
    (record { stays = refl; call = refl; holds = h; says = refl })

pub returns : goal.returns
unfolding illegal_code
returns c =
    λ l h. rw (c.on.ensures, c.illegal_code_to-t.ensures, ← c.handle-next.ensures, legal _ _ c.in_default.not-Illegal)
    (record { stays = refl; call = refl; holds = h; says = refl })
