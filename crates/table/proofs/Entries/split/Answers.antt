-- `Entries::split` meets its contract: the first list that is too short answers.
use Rattle.base.proofs.Prelude.{le-leb}
use Rattle.table.specs.Split.{fits_row}
use Rattle.table.proofs.Entries.split.Goals as goal

pub returns-in_err-labels : goal.returns-in_err-labels
unfolding fits_row
returns-in_err-labels c = rw (c.from_residual.ensures, c.in_err-labels.ensures)

pub returns-in_err-pools : goal.returns-in_err-pools
unfolding fits_row
returns-in_err-pools c =
    rw (c.from_residual-in_err-pools.ensures, le-leb _ _ c.in_ok-labels.ensures.fits, c.in_err-pools.ensures)

pub returns-in_err-jump_tables : goal.returns-in_err-jump_tables
unfolding fits_row
returns-in_err-jump_tables c =
    rw (c.from_residual-in_err-jump_tables.ensures, le-leb _ _ c.in_ok-labels.ensures.fits, le-leb _ _ c.in_ok-pools.ensures.fits, c.in_err-jump_tables.ensures)

pub returns-in_err-inline_tables : goal.returns-in_err-inline_tables
unfolding fits_row
returns-in_err-inline_tables c =
    rw (c.from_residual-in_err-inline_tables.ensures, le-leb _ _ c.in_ok-labels.ensures.fits, le-leb _ _ c.in_ok-pools.ensures.fits)
    (rw (le-leb _ _ c.in_ok-jump_tables.ensures.fits, c.in_err-inline_tables.ensures))

pub returns-in_err-calls : goal.returns-in_err-calls
unfolding fits_row
returns-in_err-calls c =
    rw (c.from_residual-in_err-calls.ensures, le-leb _ _ c.in_ok-labels.ensures.fits, le-leb _ _ c.in_ok-pools.ensures.fits)
    (rw (le-leb _ _ c.in_ok-jump_tables.ensures.fits, le-leb _ _ c.in_ok-inline_tables.ensures.fits, c.in_err-calls.ensures))
