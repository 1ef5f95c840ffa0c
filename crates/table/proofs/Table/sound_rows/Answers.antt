-- `Table::sound_rows` meets its contract: the rows in order, and then their entries.
use Rattle.base.proofs.Prelude.{◌∙◌, sym, ◌≡◌, true, false, Bool, List, ℕ}
use Rattle.std.proofs.Common.{Bor}
use Rattle.std.specs.Prelude.{MatchOption}
use Rattle.std.specs.Bool.{then_some}
use Rattle.rows.specs.Map.{map_in}
use Rattle.table.specs.declared.Table.{Table}
use Rattle.table.specs.Held.{function_row, sound}
use Rattle.table.specs.Split.{SoundRows}
use Rattle.table.proofs.HeldLaws.{sound_is, sound_none-of}
use Rattle.table.proofs.Table.sound_rows.Goals as goal
use Rattle.table.proofs.Table.sound_rows.Goals.{then-functions_ascend, else-functions_ascend}

pub returns-in_err-rows : goal.returns-in_err-rows
returns-in_err-rows c = rw c.from_residual.ensures (sound_none-of _ _ _ c.in_err-rows.ensures)

rows_if : (t : Table) (rows : Bor (List (List ℕ))) (b : Bool) → sound t ≡ b → rows.now ≡ map_in function_row t.count t.functions.now
    → MatchOption (then_some b rows) (sound t ≡ false) (λ r. SoundRows t r.now)
rows_if t rows true e are = record { sound = e; are = are }
rows_if t rows false e are = e

pub returns : goal.returns
returns c =
    let is = sound_is _ _ _ c.in_ok-rows.ensures.fits in
    let test : sound c.args.self ≡ c.if-functions_ascend.then_some =
    elim c.if-functions_ascend.branch [
      | then-functions_ascend w ↦ is ∙ rw (← c.in_ok-rows.ensures.are, ← c.functions_ascend.ensures, w.if-functions_ascend.true) (sym (w.then_some-is ∙ w.entries_ascend.ensures))
      | else-functions_ascend w ↦ is ∙ rw (← c.in_ok-rows.ensures.are, ← c.functions_ascend.ensures, w.if-functions_ascend.false) (sym (w.then_some-is ∙ w.if-functions_ascend.false))
    ] in
    rw c.then_some.ensures (rows_if _ _ _ test c.in_ok-rows.ensures.are)
