-- `handling::to_load` meets its contract.
use Rattle.base.proofs.Prelude.{[], ◌∷◌, refl, arith}
use Rattle.context.specs.Context.{table_row, ◌▸◌}
use Rattle.context.specs.Blocks.{final_return, entry_after_branch, branch}
use Rattle.context.specs.State.{starts_in, labels_in, pools_in}
use Rattle.handling.proofs.Laws.{went_on, stopped, then_may, then-puts, stop-all, came, some, some-held}
use Rattle.handling.proofs.to_load.Goals as goal

pub final_return-r1-requires : goal.final_return-r1-requires
final_return-r1-requires c = c.requires.3

pub returns-then-not-is_on : goal.returns-then-not-is_on
returns-then-not-is_on c =
    let ins = c.args.parsed.ins in
    let last = branch ins c.args.parsed.word c.args.parsed.size c.args.inside in
    λ l told h. stop-all (entry_after_branch ins c.args.inside ∷ last ∷ []) (stopped c.is_on.ensures c.if-not-is_on.true) (c.final_return-r1.ensures (starts_in c.args.m.starts.now (labels_in c.args.labels.now (pools_in c.args.pools.now l))) told h)

pub returns-then-not-is_on-2 : goal.returns-then-not-is_on-2
returns-then-not-is_on-2 c =
    let ins = c.args.parsed.ins in
    let last = branch ins c.args.parsed.word c.args.parsed.size c.args.inside in
    λ l told h. stop-all (last ∷ []) (stopped c.is_on-2.ensures c.if-not-is_on-2.true)
    (then_may (entry_after_branch ins c.args.inside) (went_on c.is_on.ensures c.if-not-is_on.false) (c.final_return-r1.ensures (starts_in c.args.m.starts.now (labels_in c.args.labels.now (pools_in c.args.pools.now l))) told h) refl c.entry_after_branch-r2.ensures)

pub branch-m-requires : goal.branch-m-requires
branch-m-requires c =
    let ins = c.args.parsed.ins in
    let s = c.args.s in
    let first = final_return ins c.args.parsed.word c.args.parsed.size c.args.inside c.args.returns in
    let some_tables = some table_row s.counts.inline_tables in
    let end = came c.args.m s c.args.parsed.size c.args.inside c.args.returns c.args.is_called_next c.args.labels.now c.args.pools.now some_tables c.args.labels.now
    (λ x. first x ▸ entry_after_branch ins c.args.inside)
    (λ l told h. then_may (entry_after_branch ins c.args.inside) (went_on c.is_on.ensures c.if-not-is_on.false)
    (c.final_return-r1.ensures (starts_in c.args.m.starts.now (labels_in c.args.labels.now (pools_in c.args.pools.now l))) told h) refl c.entry_after_branch-r2.ensures)
    c.requires.1 c.requires.2 (some-held table_row s.counts.inline_tables (omega arith)) c.requires.4 in
    (c.requires.0, end.0.labels, end.0.pools, rw end.1 c.requires.3)

pub returns : goal.returns
returns c =
    let ins = c.args.parsed.ins in
    let last = branch ins c.args.parsed.word c.args.parsed.size c.args.inside in
    λ l told h. then-puts last (went_on c.is_on-2.ensures c.if-not-is_on-2.false)
    (then_may (entry_after_branch ins c.args.inside) (went_on c.is_on.ensures c.if-not-is_on.false)
    (c.final_return-r1.ensures (starts_in c.args.m.starts.now (labels_in c.args.labels.now (pools_in c.args.pools.now l))) told h) refl c.entry_after_branch-r2.ensures) refl c.branch-m.ensures
