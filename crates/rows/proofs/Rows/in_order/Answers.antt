-- `rows::Rows::in_order` meets its contract. By its tests.
use Rattle.base.proofs.Prelude.{◌∙◌, sym, false≢true, ◌*◌, length, le-leb, lt-leb}
use native.Mathlib.Nat.{div-lt_iff_lt-mul, le-div_iff_mul-le}
use Rattle.rows.specs.Map.{in_order}
use Rattle.rows.proofs.Rows.in_order.Goals as goal
use Rattle.rows.proofs.Rows.in_order.Goals.{then-count-list, else-count-list}

pub returns-then-is_ascending : goal.returns-then-is_ascending
unfolding in_order
returns-then-is_ascending g c =
    elim c.if-count-list.branch [
      | then-count-list w ↦ rw (le-leb _ _ ((le-div_iff_mul-le {k = g.row.STRIDE} {x = c.args.count} {y = length c.args.list.now} c.requires).0 w.if-count-list.true), ← w.is_ascending.ensures, ← w.value-is, c.if-is_ascending.true) c.zeros_from.ensures
      | else-count-list w ↦ absurd (false≢true (sym (w.value-is ∙ lt-leb _ _ w.if-count-list.false) ∙ c.if-is_ascending.true))
    ]

pub returns-else-is_ascending : goal.returns-else-is_ascending
unfolding in_order
returns-else-is_ascending g c =
    elim c.if-count-list.branch [
      | then-count-list w ↦ rw (le-leb _ _ ((le-div_iff_mul-le {k = g.row.STRIDE} {x = c.args.count} {y = length c.args.list.now} c.requires).0 w.if-count-list.true), ← w.is_ascending.ensures, ← w.value-is, c.if-is_ascending.false)
      | else-count-list w ↦ rw (lt-leb (c.args.count * g.row.STRIDE) (length c.args.list.now) ((div-lt_iff_lt-mul c.requires).0 w.if-count-list.false)) c.if-is_ascending.false
    ]
