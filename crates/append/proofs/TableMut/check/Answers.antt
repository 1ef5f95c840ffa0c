-- `TableMut::check` meets its contract, test by test.
use Rattle.base.proofs.Prelude.{◌∙◌, sym, ap, ◌*◌, leb, length}
use Rattle.table.specs.Held.{function_row}
use Rattle.append.specs.Append.{Lent}
use Rattle.append.proofs.CheckLaws.{rows-known, some-picked, none-picked, check-short, check-lists, check-order, check-above, check-room, check-passed}
use Rattle.append.proofs.TableMut.check.Goals as goal

pub returns-in_default : goal.returns-in_default
returns-in_default g c =
    check-short _ _ _ _ (ap (λ (t : Lent). leb (t.count * function_row) (length t.functions)) (sym c.table.ensures) ∙ c.in_default.ensures)

pub returns-in_default-used : goal.returns-in_default-used
returns-in_default-used g c = check-lists _ _ _ _ _ (rows-known _ _ _ c.table.ensures c.in-Some.ensures) (none-picked _ _ c.in_default-used.ensures)

pub returns-then-not-in_order : goal.returns-then-not-in_order
returns-then-not-in_order g c = check-order _ _ _ _ _ (rows-known _ _ _ c.table.ensures c.in-Some.ensures) _ (some-picked _ _ c.in-Some-used.ensures) (sym c.if-not-in_order.ensures)

pub returns-then-not-is_above : goal.returns-then-not-is_above
returns-then-not-is_above g c =
    check-above _ _ _ _ _ (rows-known _ _ _ c.table.ensures c.in-Some.ensures) _ (some-picked _ _ c.in-Some-used.ensures) (sym c.if-not-in_order.ensures) (sym c.if-not-is_above.ensures)

pub returns-then-not-has_places : goal.returns-then-not-has_places
returns-then-not-has_places g c =
    check-room _ _ _ _ _ (rows-known _ _ _ c.table.ensures c.in-Some.ensures) _ (some-picked _ _ c.in-Some-used.ensures) (sym c.if-not-in_order.ensures) (sym c.if-not-is_above.ensures) (sym c.if-not-has_places.ensures)

pub returns : goal.returns
returns g c =
    check-passed _ _ _ _ _ (rows-known _ _ _ c.table.ensures c.in-Some.ensures) _ (some-picked _ _ c.in-Some-used.ensures) (sym c.if-not-in_order.ensures) (sym c.if-not-is_above.ensures) (sym c.if-not-has_places.ensures)
