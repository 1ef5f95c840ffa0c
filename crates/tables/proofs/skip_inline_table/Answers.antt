-- `tables::skip_inline_table` meets its contract.
use Rattle.tables.proofs.Laws.{skipped-table}
use Rattle.context.specs.Blocks.{skip_inline_table}
use Rattle.tables.proofs.skip_inline_table.Goals as goal
use Rattle.tables.proofs.skip_inline_table.Goals.{in-Some, in-None}

pub returns : goal.returns
unfolding skip_inline_table
returns c =
    let search = rw c.new-inline_tables.ensures at c.inline_table_at.ensures in
    λ l h. elim c.match-inline_table_at.branch [
      | in-Some w ↦
          rw (rw w.in-Some.is at search) (rw skipped-table at (rw (w.data_end-is, w.table_data-data_end.ensures) at c.skip.ensures _ h))
      | in-None w ↦ rw (rw w.in-None.is at search) (rw w.data_end-is at c.skip.ensures _ h)
    ]
