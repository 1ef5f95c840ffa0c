-- `values::mark_pool` meets its contract.
use Rattle.base.proofs.Prelude.{◌∙◌, sym, refl}
use Rattle.context.specs.Blocks.{mark_pool}
use Rattle.values.proofs.Laws.{marks, marks-none}
use Rattle.values.proofs.mark_pool.Goals as goal

pub returns-then-not-is_bx : goal.returns-then-not-is_bx
unfolding mark_pool
returns-then-not-is_bx c = λ l h. rw (sym c.is_bx.ensures ∙ c.if-not-is_bx.true) (record { stays = refl; call = refl; holds = h; says = refl })

pub returns-in-Some : goal.returns-in-Some
returns-in-Some c =
    marks c.args.ins c.args.s c.args.registers.now (sym c.is_bx.ensures ∙ c.if-not-is_bx.false) (sym c.source_of.ensures ∙ c.in-Some.is) c.mark.ensures c.mark.auto.pools

pub returns-in_default : goal.returns-in_default
returns-in_default c =
    marks-none c.args.ins c.args.s c.args.registers.now (sym c.is_bx.ensures ∙ c.if-not-is_bx.false) (sym c.source_of.ensures ∙ c.in_default.is)
