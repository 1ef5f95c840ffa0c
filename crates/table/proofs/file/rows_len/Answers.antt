-- `rows_len` meets its contract: each turn adds a function's bytes.
use Rattle.base.proofs.Prelude.{arith}
use Rattle.table.specs.Own.{rows_len}
use Rattle.table.proofs.FileLaws.{rows-len-more}
use Rattle.table.proofs.file.rows_len.Goals as goal

pub loop-row-init : goal.loop-row-init
unfolding rows_len
loop-row-init c = omega arith

pub loop-row-preserved : goal.loop-row-preserved
loop-row-preserved c =
    let more = rows-len-more c.args.rows.now c.loop-row.row-index c.loop-row-test.true in
    omega (arith, c.row_len.ensures, c.saturating_add-len.ensures)
