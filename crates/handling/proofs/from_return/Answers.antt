-- `handling::from_return` meets its contract.
use Rattle.base.proofs.Prelude.{[], ◌∷◌, refl}
use Rattle.context.specs.Blocks.{pool_load, inline_table, function_call, check_defined, from_return}
use Rattle.context.specs.State.{starts_in, labels_in, inline_tables_in}
use Rattle.handling.specs.Handling.{to_load, from_load}
use Rattle.handling.proofs.Laws.{went_on, stopped, then_may, then-puts, stop-all, came, standing_by, behind}
use Rattle.handling.proofs.from_return.Goals as goal

pub to_load-branched-requires : goal.to_load-branched-requires
to_load-branched-requires c = (c.requires.0, c.requires.1, c.requires.2, c.requires.4, c.requires.5)

pub returns-then-not-is_on : goal.returns-then-not-is_on
unfolding from_return
returns-then-not-is_on c =
    let ins = c.args.parsed.ins in
    let fs = pool_load ins ∷ inline_table ins ∷ function_call ins c.args.parsed.word ∷ check_defined ins c.args.returns ∷ [] in
    λ l told h. stop-all fs (stopped c.is_on.ensures c.if-not-is_on.true) (c.to_load-branched.ensures (inline_tables_in c.args.inline_tables.now l) told h)

pub pool_load-loaded-requires : goal.pool_load-loaded-requires
pool_load-loaded-requires c =
    let p = c.args.parsed in
    (came c.args.m c.args.s p.size c.args.inside c.args.returns c.args.is_called_next c.args.labels.now c.args.pools.now c.args.inline_tables.now c.to_load-branched.new.labels
    (to_load p.ins p.word p.size c.args.inside c.args.returns) c.to_load-branched.ensures c.requires.1 c.requires.2 c.requires.3 c.requires.5).0.pools

pub returns-then-not-is_on-2 : goal.returns-then-not-is_on-2
unfolding from_return
returns-then-not-is_on-2 c =
    let ins = c.args.parsed.ins in
    let fs = inline_table ins ∷ function_call ins c.args.parsed.word ∷ check_defined ins c.args.returns ∷ [] in
    λ l told h. stop-all fs (stopped c.is_on-2.ensures c.if-not-is_on-2.true)
    (then_may (pool_load ins) (went_on c.is_on.ensures c.if-not-is_on.false) (c.to_load-branched.ensures (inline_tables_in c.args.inline_tables.now l) told h) refl
    c.pool_load-loaded.ensures)

pub from_load-stepped-requires : goal.from_load-stepped-requires
from_load-stepped-requires c =
    let p = c.args.parsed in
    let world = standing_by c.args.s p.size c.args.is_called_next c.args.labels.now c.args.pools.now c.args.inline_tables.now in
    let end = came c.args.m c.args.s p.size c.args.inside c.args.returns c.args.is_called_next c.args.labels.now c.args.pools.now c.args.inline_tables.now c.to_load-branched.new.labels
    (to_load p.ins p.word p.size c.args.inside c.args.returns) c.to_load-branched.ensures c.requires.1 c.requires.2 c.requires.3 c.requires.5 in
    (c.pool_load-loaded.ensures (starts_in c.args.m.starts.now (labels_in c.to_load-branched.new.labels world)) end.0).holds.inline_tables

pub returns : goal.returns
unfolding from_return
returns c =
    let ins = c.args.parsed.ins in
    let fs = function_call ins c.args.parsed.word ∷ check_defined ins c.args.returns ∷ [] in
    let last = from_load ins c.args.parsed.word c.args.returns in
    λ l told h.
    let branched = c.to_load-branched.ensures (inline_tables_in c.args.inline_tables.now l) told h in
    let loaded = then_may (pool_load ins) (went_on c.is_on.ensures c.if-not-is_on.false) branched refl c.pool_load-loaded.ensures in
    rw (behind _ (inline_table ins) fs) at (then-puts last (went_on c.is_on-2.ensures c.if-not-is_on-2.false) loaded refl c.from_load-stepped.ensures)
