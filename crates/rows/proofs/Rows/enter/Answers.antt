-- `rows::Rows::enter` meets its contract. By the insert's answer.
use Rattle.base.proofs.Prelude.{◌≡◌, rules}
use Rattle.std.specs.Prelude.{Ok, Err}
use Rattle.rows.specs.declared.Change.TheVariants.{Added, Replaced}
use Rattle.rows.proofs.InsertLaws.{entered}
use Rattle.rows.proofs.Rows.enter.Goals as goal

pub returns-in_err-insert : goal.returns-in_err-insert
returns-in_err-insert g c =
    let same : c.from_residual.result ≡ Err c.in_err-insert.field-0.0 = search rules in
    rw same (entered (Err c.in_err-insert.field-0.0) c.requires.0 c.in_err-insert.ensures)

pub returns-in-Added : goal.returns-in-Added
returns-in-Added g c = entered (Ok Added) c.requires.0 (rw c.in-Added.is at c.in_ok-insert.ensures)

pub returns-in-Replaced : goal.returns-in-Replaced
returns-in-Replaced g c = entered (Ok Replaced) c.requires.0 (rw c.in-Replaced.is at c.in_ok-insert.ensures)
