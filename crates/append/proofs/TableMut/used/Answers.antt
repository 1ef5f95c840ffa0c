-- `TableMut::used` meets its contract: the first count that is above its list answers.
use Rattle.table.specs.Held.{fits_lists}
use Rattle.append.proofs.CheckLaws.{some-picked, none-picked}
use Rattle.append.proofs.TableMut.used.Goals as goal

pub returns-in_err-total : goal.returns-in_err-total
unfolding fits_lists
returns-in_err-total c = rw (c.from_residual.ensures, none-picked _ _ c.in_err-total.ensures)

pub returns-in_err-total-2 : goal.returns-in_err-total-2
unfolding fits_lists
returns-in_err-total-2 c =
    let a = some-picked _ _ c.in_ok-total.ensures in
    rw (c.from_residual-in_err-total-2.ensures, a.0, none-picked _ _ c.in_err-total-2.ensures)

pub returns-in_err-total-3 : goal.returns-in_err-total-3
unfolding fits_lists
returns-in_err-total-3 c =
    let a = some-picked _ _ c.in_ok-total.ensures in
    let b = some-picked _ _ c.in_ok-total-2.ensures in
    rw (c.from_residual-in_err-total-3.ensures, a.0, b.0, none-picked _ _ c.in_err-total-3.ensures)

pub returns-in_err-total-4 : goal.returns-in_err-total-4
unfolding fits_lists
returns-in_err-total-4 c =
    let a = some-picked _ _ c.in_ok-total.ensures in
    let b = some-picked _ _ c.in_ok-total-2.ensures in
    let d = some-picked _ _ c.in_ok-total-3.ensures in
    rw (c.from_residual-in_err-total-4.ensures, a.0, b.0, d.0, none-picked _ _ c.in_err-total-4.ensures)

pub returns-in_err-total-5 : goal.returns-in_err-total-5
unfolding fits_lists
returns-in_err-total-5 c =
    let a = some-picked _ _ c.in_ok-total.ensures in
    let b = some-picked _ _ c.in_ok-total-2.ensures in
    let d = some-picked _ _ c.in_ok-total-3.ensures in
    let e = some-picked _ _ c.in_ok-total-4.ensures in
    rw (c.from_residual-in_err-total-5.ensures, a.0, b.0, d.0, e.0, none-picked _ _ c.in_err-total-5.ensures)

pub returns : goal.returns
unfolding fits_lists
returns c =
    let a = some-picked _ _ c.in_ok-total.ensures in
    let b = some-picked _ _ c.in_ok-total-2.ensures in
    let d = some-picked _ _ c.in_ok-total-3.ensures in
    let e = some-picked _ _ c.in_ok-total-4.ensures in
    let f = some-picked _ _ c.in_ok-total-5.ensures in
    rw (a.0, b.0, d.0, e.0, f.0, a.1, b.1, d.1, e.1, f.1)
