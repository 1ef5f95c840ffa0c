-- An append keeps a table's order, and every count within its list.
-- Assumes nothing.
use Rattle.base.proofs.Prelude.{◌∙◌, sym, refl, ◌≡◌, ap, true, List, [], ◌∷◌, ◌++◌, map, ◌≤◌, ℕ, ◌+◌, ◌-◌, ◌*◌, suc, arith, ltb, leb, length, get_or, le-leb}
use Rattle.std.specs.Prelude.{Result, Ok, Err}
use Rattle.std.specs.List.{list_all}
use Rattle.std.specs.Result.{result_map_both}
use native.Mathlib.Nat.{add-mul}
use Rattle.std.proofs.lemmas.List.{map-append}
use Rattle.std.proofs.lemmas.List.Folds.{list_all-append}
use Rattle.std.proofs.lemmas.List.Sums.{sum_by-append, sum_by-cons}
use Rattle.base.proofs.ChoiceLaws.{both_true, both-are}
use Rattle.base.specs.declared.refusal.Refusal.{Refusal}
use Rattle.context.specs.Context.{Maps}
use Rattle.context.specs.Lists.{Lists as Walked, maps_in, AllHeld}
use Rattle.rows.specs.Map.{flat, map_in}
use Rattle.rows.specs.Order.{rising, ascending}
use Rattle.rows.proofs.MapLaws.{held-flat}
use Rattle.table.specs.Table.{Function, entries_rise, is_ascending}
use Rattle.table.specs.Held.{function_row, label_row, pool_row, jump_table_row, inline_table_row, call_row, labels_at, pools_at, jump_tables_at, inline_tables_at, calls_at}
use Rattle.table.specs.Held.{fits_lists, is_sound}
use Rattle.table.specs.Split.{first_of}
use Rattle.table.proofs.HeldLaws.{first_instructions, rises-flagged}
use Rattle.text.specs.Put.{put}
use Rattle.text.proofs.Put.{put-length}
use Rattle.walk.specs.declared.Counts.{Counts}
use Rattle.walk.specs.declared.Record.{Record}
use Rattle.append.specs.Append.{Lent, function_of, row_of, rows_of, table_of, is_above, last_of, total, used, checked, answer, filled, appended}
use Rattle.append.proofs.AppendLaws.{rows-after, table-after}
use Rattle.append.proofs.CheckLaws.{Passed, ok-passed, passed-held, passed-room, passed-row}
use Rattle.append_laws.specs.Kept.{holds_table, Kept}

-- ---- the order of first instructions

last-past : (row s : List ℕ) (rows : List (List ℕ)) → last_of (row ∷ s ∷ rows) ≡ last_of (s ∷ rows)
last-past row s rows = let e : length (row ∷ s ∷ rows) - 1 ≡ suc (length (s ∷ rows) - 1) = omega arith in rw e

rising-more : (k a : ℕ) (row : List ℕ) (rows : List (List ℕ)) → rising k (map first_of (row ∷ rows)) ≡ true → is_above a (last_of (row ∷ rows)) ≡ true
    → rising k (map first_of (row ∷ rows) ++ (a ∷ [])) ≡ true
unfolding rising
rising-more k a row [] e h = both-are _ _ (both_true (ltb k (first_of row)) true e).0 (rw h)
rising-more k a row (s ∷ rows) e h =
    let g = both_true (ltb k (first_of row)) _ e in
    both-are _ _ g.0 (rising-more (first_of row) a s rows g.1 (ap (is_above a) (sym (last-past row s rows)) ∙ h))

ascending-more : (a : ℕ) (rows : List (List ℕ)) → ascending (map first_of rows) ≡ true → is_above a (last_of rows) ≡ true → ascending (map first_of rows ++ (a ∷ [])) ≡ true
unfolding ascending rising
ascending-more a [] e h = refl
ascending-more a (row ∷ []) e h = rw h
ascending-more a (row ∷ s ∷ rows) e h = rising-more (first_of row) a s rows e (ap (is_above a) (sym (last-past row s rows)) ∙ h)

-- ---- one function's entries

own-rise : (r : Record) (n : Counts) (l : Walked) → AllHeld n l → entries_rise (function_of r (maps_in n l)) ≡ true
unfolding function_of
own-rise r n l h = rw (
  h.labels.rises,
  rises-flagged 1 (map_in pool_row n.pools l.pools),
  h.pools.rises,
  h.jump_tables.rises,
  h.inline_tables.rises,
  rises-flagged 2 (map_in call_row n.calls l.calls),
  h.calls.rises,
)

-- ---- the whole

module _ (r : Record) (n : Counts) (l : Walked) (t : Lent) (sound : holds_table t ≡ true) (p : Passed r.first_instruction n l t) where
  abbrev m : Maps
  m = maps_in n l

  ordered : is_ascending (table_of t) ≡ true
  unfolding is_sound
  ordered = (both_true _ _ (both_true _ _ sound).1).1

  -- first instructions, and each function's entries
  firsts-kept : ascending (map (λ (f : Function). f.first_instruction) (table_of t ++ (function_of r m ∷ []))) ≡ true
  unfolding is_ascending function_of
  firsts-kept =
      let before : ascending (map first_of (rows_of t)) ≡ true = ap ascending (sym (first_instructions (rows_of t) t.lists)) ∙ (both_true _ _ ordered).0 in
      rw (map-append, first_instructions (rows_of t) t.lists) (ascending-more r.first_instruction (rows_of t) before p.above)

  entries-kept : list_all entries_rise (table_of t ++ (function_of r m ∷ [])) ≡ true
  unfolding is_ascending
  entries-kept =
      let all : list_all entries_rise (table_of t) ≡ true = (both_true _ _ ordered).1 in
      let own : entries_rise (function_of r m) ≡ true = own-rise r n l (passed-held r.first_instruction n l t p) in
      list_all-append entries_rise (table_of t) (function_of r m ∷ []) ∙ rw (all, own)

  table-kept : is_ascending (table_of t ++ (function_of r m ∷ [])) ≡ true
  unfolding is_ascending
  table-kept = both-are _ _ firsts-kept entries-kept

  -- one more, and its entries, fit the list
  has-more : (at stride others count : ℕ) (row to : List ℕ) (rows entries : List (List ℕ)) → others ≡ total at rows → get_or row at 0 ≡ count
      → length (flat entries) ≡ count * stride → (others + count) * stride ≤ length to
      → leb (total at (rows ++ (row ∷ [])) * stride) (length (put to (others * stride) (flat entries))) ≡ true
  has-more at stride others count row to rows entries same here wide room =
      let all : total at (rows ++ (row ∷ [])) ≡ others + count =
      sum_by-append (λ (x : List ℕ). get_or x at 0) rows (row ∷ []) ∙ (rw (sum_by-cons (λ (x : List ℕ). get_or x at 0) row []) (omega (arith, same, here))) in
      let split : (others + count) * stride ≡ others * stride + count * stride = add-mul others count stride in
      let long : length (put to (others * stride) (flat entries)) ≡ length to = put-length to (others * stride) (flat entries) (omega (arith, wide, split, room)) in
      rw (all, long) (le-leb _ _ room)

  lists-kept : fits_lists (rows_of t ++ (row_of r n ∷ [])) (filled (used t) m t.lists) ≡ true
  unfolding fits_lists row_of
  lists-kept =
      let h = passed-held r.first_instruction n l t p in
      let q = passed-room r.first_instruction n l t p in
      both-are _ _ (has-more labels_at label_row _ n.labels (row_of r n) t.lists.labels (rows_of t) m.labels refl refl (held-flat h.labels) q.labels.room)
      (both-are _ _ (has-more pools_at pool_row _ n.pools (row_of r n) t.lists.pools (rows_of t) m.pools refl refl (held-flat h.pools) q.pools.room)
      (both-are _ _ (has-more jump_tables_at jump_table_row _ n.jump_tables (row_of r n) t.lists.jump_tables (rows_of t) m.jump_tables refl refl (held-flat h.jump_tables) q.jump_tables.room)
      (both-are _ _ (has-more inline_tables_at inline_table_row _ n.inline_tables (row_of r n) t.lists.inline_tables (rows_of t) m.inline_tables refl refl (held-flat h.inline_tables) q.inline_tables.room)
      (has-more calls_at call_row _ n.calls (row_of r n) t.lists.calls (rows_of t) m.calls refl refl (held-flat h.calls) q.calls.room))))

  rows-kept : leb ((t.count + 1) * function_row) (length (put t.functions (t.count * function_row) (row_of r n))) ≡ true
  unfolding row_of
  rows-kept =
      let room = passed-row r.first_instruction n l t p in
      let long : length (put t.functions (t.count * function_row) (row_of r n)) ≡ length t.functions = put-length t.functions (t.count * function_row) (row_of r n) (omega (arith, room)) in
      rw long (le-leb _ _ room)

  pub passed-kept : holds_table (appended r n m t) ≡ true
  unfolding is_sound appended
  passed-kept =
      let table : is_ascending (table_of (appended r n m t)) ≡ true = ap is_ascending (table-after r.first_instruction r n l t p) ∙ table-kept in
      let lists = ap (λ (rs : List (List ℕ)). fits_lists rs (filled (used t) m t.lists)) (rows-after r.first_instruction r n l t p) ∙ lists-kept in
      both-are _ _ rows-kept (both-are _ _ lists table)

pub kept : (r : Record) (n : Counts) (l : Walked) (t : Lent) → Kept r n l t
unfolding answer
kept r n l t sound = step (checked r.first_instruction n l t) refl
  where
    step : (c : Result Counts Refusal) → c ≡ checked r.first_instruction n l t
        → result_map_both (λ (u : Counts). tt {0}) (λ (e : Refusal). e) c ≡ Ok tt → holds_table (appended r n (maps_in n l) t) ≡ true
    step (Ok u) h g = passed-kept r n l t sound (ok-passed r.first_instruction n l t u h).0
    step (Err e) h g = absurd (let z : ◌≡◌ {A = ℕ} 0 1 = cc in omega arith)
