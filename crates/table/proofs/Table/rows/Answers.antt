-- `Table::rows` meets its contract: the library's chunks are the rows.
use Rattle.base.proofs.Prelude.{◌≡◌, ◌≤◌, ◌<◌, ◌+◌, ◌-◌, ◌/◌, ◌∙◌, ◌⊎◌, ⊎_elim, ℕ, List, false, length, arith, lt-leb}
use Rattle.std.proofs.Common.{Bor}
use Rattle.std.specs.List.{slice_range}
use Rattle.std.specs.Prelude.{Option, Some, None, MatchOption}
use Rattle.std.specs.Simd.{first_chunks}
use Rattle.rows.proofs.MapLaws.{chunks-are}
use Rattle.table.specs.declared.Table.{Table}
use Rattle.table.specs.Held.{function_row, has_rows, Rows}
use Rattle.table.proofs.Table.rows.Goals as goal

rows_got : (t : Table) (chunks : List (List ℕ)) → chunks ≡ first_chunks function_row (length t.functions.now / function_row) t.functions.now
    → length chunks ≡ length t.functions.now / function_row
    → (o : Option (Bor (List (List ℕ))))
    → MatchOption o ((t.count < 0) ⊎ (length chunks < t.count))
    (λ x. (0 ≤ t.count) × (t.count ≤ length chunks) × (x.now ≡ slice_range chunks 0 t.count) × (length x.now + 0 ≡ t.count))
    → MatchOption o (has_rows t ≡ false) (λ x. Rows t x.now)
rows_got t chunks e long None h = lt-leb _ _ (⊎_elim (λ a. absurd (omega arith)) (λ a. omega arith) h)
rows_got t chunks e long (Some x) h =
    let all : t.count - 0 ≡ t.count = omega arith in
    let room : t.count ≤ length t.functions.now / function_row = omega arith in
    record { fits = omega arith; are = h.2 ∙ rw (e, all) (chunks-are function_row t.count (length t.functions.now / function_row) t.functions.now room) }

pub returns : goal.returns
returns c = rows_got c.args.self _ c.as_chunks.ensures.front c.as_chunks.ensures.front_len c.get.result c.get.ensures.lookup.0
