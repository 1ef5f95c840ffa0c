-- `values::pool_load` meets its contract.
use Rattle.base.proofs.Prelude.{◌∙◌, sym, refl}
use Rattle.context.specs.Blocks.{pool_load}
use Rattle.values.proofs.Laws.{pool-full, pool-in}
use Rattle.values.proofs.pool_load.Goals as goal

pub returns-then-not-is_pool_load : goal.returns-then-not-is_pool_load
unfolding pool_load
returns-then-not-is_pool_load c = λ l h. rw (c.on.ensures, sym c.is_pool_load.ensures ∙ c.if-not-is_pool_load.true) (record { stays = refl; call = refl; holds = h; says = refl })

pub returns-in_default : goal.returns-in_default
unfolding pool_load
returns-in_default c = let load = sym c.is_pool_load.ensures ∙ c.if-not-is_pool_load.false in λ l h. rw (c.refuse.ensures, load, ← c.pool_address-address.ensures, ← c.word_from.ensures, c.in_default.is) (record { stays = refl; call = refl; holds = h; says = refl })

pub returns-in-Ok : goal.returns-in-Ok
returns-in-Ok c = let load = sym c.is_pool_load.ensures ∙ c.if-not-is_pool_load.false in let word = sym c.word_from.ensures ∙ c.in-Some.is in pool-in c.args.m c.args.ins c.args.s load c.pool_address-address.ensures word c.enter.auto.list (rw c.into.ensures at c.in-Ok.ensures) c.count_pools.ensures c.pool_to.ensures c.on-in-Ok.ensures

pub returns-in-Err : goal.returns-in-Err
returns-in-Err c = let load = sym c.is_pool_load.ensures ∙ c.if-not-is_pool_load.false in let word = sym c.word_from.ensures ∙ c.in-Some.is in pool-full c.args.m c.args.ins c.args.s load c.pool_address-address.ensures word c.enter.auto.list (rw c.into.ensures at c.in-Err.ensures) c.refuse-in-Err.ensures
