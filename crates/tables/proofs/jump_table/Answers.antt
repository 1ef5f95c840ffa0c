-- `tables::jump_table` meets its contract.
use Rattle.base.proofs.Prelude.{◌∙◌, sym, refl, rules, ◌≡◌}
use Rattle.std.specs.Prelude.{Some, None, MatchOption}
use Rattle.analysis.specs.JumpTable.{table_end}
use Rattle.context.specs.Blocks.{jump_table, raised_to_table}
use Rattle.tables.proofs.Laws.{with_jump_table, found, refused, jump-in, jump-full, jump-refused}
use Rattle.tables.proofs.jump_table.Goals as goal
use Rattle.tables.proofs.jump_table.Goals.{in-Ok+in-Ok-enter_found, in-Ok+in-Err-enter_found, in-Err}

pub returns : goal.returns
returns c =
    let ins = c.args.ins in
    let s = c.args.s in
    let machine = sym c.handle.ensures in
    elim c.match-handle.branch [
      | in-Ok+in-Ok-enter_found w ↦
          let table : MatchOption w.in-Ok.found (w.map-table.result ≡ None) (λ t. w.map-table.result ≡ Some (t.address, t.size)) = search rules in
          let entered = rw w.in-Ok-enter_found.is at w.enter_found.ensures in
          rw w.jump_tables-is
          (found with_jump_table (λ f. raised_to_table (table_end f.0)) (jump_table ins) s (w.in-Ok.next, w.in-Ok-enter_found.count)
          (jump-in ins s _ (machine ∙ w.in-Ok.is) table w.enter_found.auto.tables entered) refl refl
          (rw (c.jump_table_to-t.ensures, c.count_jump_tables.ensures, w.next-is) at c.raise_to_table.ensures))
      | in-Ok+in-Err-enter_found w ↦
          let table : MatchOption w.in-Ok.found (w.map-table.result ≡ None) (λ t. w.map-table.result ≡ Some (t.address, t.size)) = search rules in
          let entered = rw w.in-Err-enter_found.is at w.enter_found.ensures in
          rw w.jump_tables-is
          (refused with_jump_table (λ f. raised_to_table (table_end f.0)) (jump_table ins) s (with_jump_table (w.in-Ok.next, s.counts.jump_tables) s)
          (jump-full ins s _ (machine ∙ w.in-Ok.is) table w.enter_found.auto.tables entered) refl refl refl
          (rw (c.jump_table_to-t.ensures, c.count_jump_tables.ensures, w.next-is) at c.raise_to_table.ensures))
      | in-Err w ↦
          rw w.jump_tables-is
          (refused with_jump_table (λ f. raised_to_table (table_end f.0)) (jump_table ins) s s (jump-refused ins s (machine ∙ w.in-Err.is)) refl refl refl
          (rw (c.jump_table_to-t.ensures, c.count_jump_tables.ensures, w.next-is) at c.raise_to_table.ensures))
    ]
