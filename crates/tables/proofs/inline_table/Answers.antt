-- `tables::inline_table` meets its contract.
use Rattle.base.proofs.Prelude.{◌∙◌, sym, refl, rules, ◌≡◌}
use Rattle.std.specs.Prelude.{Some, None, MatchOption}
use Rattle.context.specs.Context.{on}
use Rattle.context.specs.Blocks.{inline_table}
use Rattle.tables.proofs.Laws.{with_inline_table, found, refused, inline-in, inline-full, inline-refused}
use Rattle.tables.proofs.inline_table.Goals as goal
use Rattle.tables.proofs.inline_table.Goals.{in-Ok+in-Ok-enter_found, in-Ok+in-Err-enter_found, in-Err}

pub returns : goal.returns
returns c =
    let ins = c.args.ins in
    let s = c.args.s in
    let machine = sym c.handle.ensures in
    rw (c.inline_table_to.ensures, c.count_inline_tables.ensures)
    (elim c.match-handle.branch [
      | in-Ok+in-Ok-enter_found w ↦
          let table : MatchOption w.get_table.result (w.map-table.result ≡ None) (λ t. w.map-table.result ≡ Some (t.address, t.size)) = search rules in
          let entered = rw w.in-Ok-enter_found.is at w.enter_found.ensures in
          rw (w.inline_tables-is, w.next-is, rw w.next-is at c.map_or.ensures)
          (found with_inline_table (λ f. on) (inline_table ins) s (w.in-Ok.next, w.in-Ok-enter_found.count)
          (inline-in ins s _ (machine ∙ w.in-Ok.is) (rw w.get_table.ensures at table) w.enter_found.auto.tables entered) refl refl
          (λ l h. record { stays = refl; call = refl; holds = h; says = refl }))
      | in-Ok+in-Err-enter_found w ↦
          let table : MatchOption w.get_table.result (w.map-table.result ≡ None) (λ t. w.map-table.result ≡ Some (t.address, t.size)) = search rules in
          let entered = rw w.in-Err-enter_found.is at w.enter_found.ensures in
          rw (w.inline_tables-is, w.next-is, rw w.next-is at c.map_or.ensures)
          (refused with_inline_table (λ f. on) (inline_table ins) s (with_inline_table (w.in-Ok.next, s.counts.inline_tables) s)
          (inline-full ins s _ (machine ∙ w.in-Ok.is) (rw w.get_table.ensures at table) w.enter_found.auto.tables entered) refl refl refl
          (λ l h. record { stays = refl; call = refl; holds = h; says = refl }))
      | in-Err w ↦
          rw (w.inline_tables-is, w.next-is, rw w.next-is at c.map_or.ensures)
          (refused with_inline_table (λ f. on) (inline_table ins) s s (inline-refused ins s (machine ∙ w.in-Err.is)) refl refl refl
          (λ l h. record { stays = refl; call = refl; holds = h; says = refl }))
    ])
