-- `handling::to_return` meets its contract.
use Rattle.base.proofs.Prelude.{[], ◌∷◌}
use Rattle.context.specs.Blocks.{skip_inline_table, jump_table, illegal_code, branch_outside, mark_pool, forget_written, to_return}
use Rattle.handling.proofs.Laws.{went_on, stopped, to-first, to-inlines, to-jumps, to-alone, to-goes, to_held, to-stops}
use Rattle.handling.proofs.to_return.Goals as goal

pub skip_pool-r1-requires : goal.skip_pool-r1-requires
skip_pool-r1-requires c = (c.requires.0, c.requires.3)

pub returns-then-not-is_on : goal.returns-then-not-is_on
unfolding to_return
returns-then-not-is_on c = let ins = c.args.ins in to-stops (to-first c.args.s c.args.registers.now (c.args.jump_tables.now) (c.args.inline_tables.now) c.skip_pool-r1.ensures) (stopped c.is_on.ensures c.if-not-is_on.true) ins (skip_inline_table ∷ jump_table ins ∷ illegal_code ins ∷ branch_outside ins ∷ mark_pool ins ∷ forget_written ins ∷ [])

pub skip_inline_table-r2-requires : goal.skip_inline_table-r2-requires
skip_inline_table-r2-requires c = (to_held (to-first c.args.s c.args.registers.now (c.args.jump_tables.now) (c.args.inline_tables.now) c.skip_pool-r1.ensures) c.requires.0 c.requires.1 c.requires.2).2

pub returns-then-not-is_on-2 : goal.returns-then-not-is_on-2
unfolding to_return
returns-then-not-is_on-2 c = let ins = c.args.ins in to-stops (to-inlines (to-first c.args.s c.args.registers.now (c.args.jump_tables.now) (c.args.inline_tables.now) c.skip_pool-r1.ensures) (went_on c.is_on.ensures c.if-not-is_on.false) skip_inline_table c.skip_inline_table-r2.ensures) (stopped c.is_on-2.ensures c.if-not-is_on-2.true) ins (jump_table ins ∷ illegal_code ins ∷ branch_outside ins ∷ mark_pool ins ∷ forget_written ins ∷ [])

pub jump_table-r3-requires : goal.jump_table-r3-requires
jump_table-r3-requires c = (to_held (to-inlines (to-first c.args.s c.args.registers.now (c.args.jump_tables.now) (c.args.inline_tables.now) c.skip_pool-r1.ensures) (went_on c.is_on.ensures c.if-not-is_on.false) skip_inline_table c.skip_inline_table-r2.ensures) c.requires.0 c.requires.1 c.requires.2).1

pub returns-then-not-is_on-3 : goal.returns-then-not-is_on-3
unfolding to_return
returns-then-not-is_on-3 c = let ins = c.args.ins in to-stops (to-jumps (to-inlines (to-first c.args.s c.args.registers.now (c.args.jump_tables.now) (c.args.inline_tables.now) c.skip_pool-r1.ensures) (went_on c.is_on.ensures c.if-not-is_on.false) skip_inline_table c.skip_inline_table-r2.ensures) (went_on c.is_on-2.ensures c.if-not-is_on-2.false) (jump_table ins) c.jump_table-r3.ensures) (stopped c.is_on-3.ensures c.if-not-is_on-3.true) ins (illegal_code ins ∷ branch_outside ins ∷ mark_pool ins ∷ forget_written ins ∷ [])

pub returns-then-not-is_on-4 : goal.returns-then-not-is_on-4
unfolding to_return
returns-then-not-is_on-4 c = let ins = c.args.ins in to-stops (to-alone (to-jumps (to-inlines (to-first c.args.s c.args.registers.now (c.args.jump_tables.now) (c.args.inline_tables.now) c.skip_pool-r1.ensures) (went_on c.is_on.ensures c.if-not-is_on.false) skip_inline_table c.skip_inline_table-r2.ensures) (went_on c.is_on-2.ensures c.if-not-is_on-2.false) (jump_table ins) c.jump_table-r3.ensures) (went_on c.is_on-3.ensures c.if-not-is_on-3.false) (illegal_code ins) c.illegal_code-r4.ensures) (stopped c.is_on-4.ensures c.if-not-is_on-4.true) ins (branch_outside ins ∷ mark_pool ins ∷ forget_written ins ∷ [])

pub returns-then-not-is_on-5 : goal.returns-then-not-is_on-5
unfolding to_return
returns-then-not-is_on-5 c = let ins = c.args.ins in to-stops (to-alone (to-alone (to-jumps (to-inlines (to-first c.args.s c.args.registers.now (c.args.jump_tables.now) (c.args.inline_tables.now) c.skip_pool-r1.ensures) (went_on c.is_on.ensures c.if-not-is_on.false) skip_inline_table c.skip_inline_table-r2.ensures) (went_on c.is_on-2.ensures c.if-not-is_on-2.false) (jump_table ins) c.jump_table-r3.ensures) (went_on c.is_on-3.ensures c.if-not-is_on-3.false) (illegal_code ins) c.illegal_code-r4.ensures) (went_on c.is_on-4.ensures c.if-not-is_on-4.false) (branch_outside ins) c.branch_outside-r5.ensures) (stopped c.is_on-5.ensures c.if-not-is_on-5.true) ins (mark_pool ins ∷ forget_written ins ∷ [])

pub mark_pool-requires : goal.mark_pool-requires
mark_pool-requires c = let ins = c.args.ins in (to_held (to-alone (to-alone (to-jumps (to-inlines (to-first c.args.s c.args.registers.now (c.args.jump_tables.now) (c.args.inline_tables.now) c.skip_pool-r1.ensures) (went_on c.is_on.ensures c.if-not-is_on.false) skip_inline_table c.skip_inline_table-r2.ensures) (went_on c.is_on-2.ensures c.if-not-is_on-2.false) (jump_table ins) c.jump_table-r3.ensures) (went_on c.is_on-3.ensures c.if-not-is_on-3.false) (illegal_code ins) c.illegal_code-r4.ensures) (went_on c.is_on-4.ensures c.if-not-is_on-4.false) (branch_outside ins) c.branch_outside-r5.ensures) c.requires.0 c.requires.1 c.requires.2).0

pub returns : goal.returns
unfolding to_return
returns c = let ins = c.args.ins in rw c.on.ensures (to-goes (to-alone (to-alone (to-jumps (to-inlines (to-first c.args.s c.args.registers.now (c.args.jump_tables.now) (c.args.inline_tables.now) c.skip_pool-r1.ensures) (went_on c.is_on.ensures c.if-not-is_on.false) skip_inline_table c.skip_inline_table-r2.ensures) (went_on c.is_on-2.ensures c.if-not-is_on-2.false) (jump_table ins) c.jump_table-r3.ensures) (went_on c.is_on-3.ensures c.if-not-is_on-3.false) (illegal_code ins) c.illegal_code-r4.ensures) (went_on c.is_on-4.ensures c.if-not-is_on-4.false) (branch_outside ins) c.branch_outside-r5.ensures) (went_on c.is_on-5.ensures c.if-not-is_on-5.false) ins c.mark_pool.ensures)
