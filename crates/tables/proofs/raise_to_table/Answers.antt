-- `tables::raise_to_table` meets its contract.
use Rattle.base.proofs.Prelude.{◌∙◌, refl, ◌≡◌, ap}
use Rattle.analysis.specs.JumpTable.{table_end}
use Rattle.context.specs.Blocks.{raised_to_table}
use Rattle.context.specs.Context.{raising, table_to}
use Rattle.context.specs.State.{World, read, context_of, progressed}
use Rattle.tables.specs.Tables.{unless_refused}
use Rattle.tables.proofs.Laws.{refused-then}
use native.Mathlib.Nat.{max-zero}
use Rattle.tables.proofs.raise_to_table.Goals as goal
use Rattle.tables.proofs.raise_to_table.Goals.{in-Ok-Some, in-Ok-None, in-Err}

pub returns : goal.returns
returns c =
    let args = c.args in
    let m = c.match-table_end_address in
    let asked = c.table_end_address in
    let says : (l : World) → read m.then.0 (context_of (progressed (table_to m.then.2 (raising m.then.1 args.s.progress)) args.s) l)
    ≡ raised_to_table (table_end args.machine) (context_of args.s l) =
    λ l. elim m.branch [
      | in-Ok-Some w ↦ rw (← asked.ensures, w.in-Ok-Some.is, w.in-Ok-Some.field-0-is, w.then-is)
      | in-Ok-None w ↦ rw (← asked.ensures, w.in-Ok-None.is, w.in-Ok-None.field-0-is, w.then-is, max-zero)
      | in-Err w ↦ rw (← asked.ensures, w.in-Err.is, w.then-is, w.refuses.ensures)
    ]
    in
    λ l h. rw (c.table_to.ensures, c.raise.ensures) (record {
      stays = refl;
      call = refl;
      holds = h;
      says = refused-then args.refusal m.then.0 c.map_or.result c.map_or.ensures _ ∙ ap (unless_refused args.refusal) (says l);
    })
