-- A table with a function put behind it, in the lists that hold it.
-- Assumes nothing.
use Rattle.base.proofs.Prelude.{◌∙◌, sym, refl, ◌≡◌, ap, true, List, [], ◌∷◌, ◌++◌, ◌≤◌, ℕ, ◌+◌, ◌*◌, length, take, drop, leb, leb-true, length-take-le, take-append-drop, add-one}
use Rattle.std.specs.Prelude.{Ok}
use Rattle.base.proofs.ChoiceLaws.{both_true}
use Rattle.context.specs.Context.{Maps}
use Rattle.context.specs.Lists.{Lists as Walked, maps_in}
use Rattle.rows.specs.Map.{flat, map_in}
use Rattle.rows.proofs.MapLaws.{map-length, map-wide}
use Rattle.table.specs.Table.{Function}
use Rattle.table.specs.Held.{function_row, label_row, pool_row, jump_table_row, inline_table_row, call_row, labels_at, pools_at, jump_tables_at, inline_tables_at, calls_at}
use Rattle.table.specs.Held.{Lists, function_in, functions_in, fits_lists}
use Rattle.table.proofs.HeldLaws.{map_in-front}
use Rattle.text.specs.Put.{put}
use Rattle.walk.specs.declared.Counts.{Counts}
use Rattle.walk.specs.declared.Record.{Record}
use Rattle.append.specs.Append.{Lent, function_of, row_of, rows_of, table_of, total, used, checked, answer, with_lists, filled, appended, Appended}
use Rattle.append.proofs.BehindLaws.{Exact, joined, map_back, map_more, functions-front, functions-more}
use Rattle.append.proofs.CheckLaws.{Passed, passed-held, ok-passed}

-- the first entries of a list, so many as the functions have
front : (stride n : ℕ) (list : List ℕ) → leb (n * stride) (length list) ≡ true → length (take (n * stride) list) ≡ n * stride
front stride n list h = length-take-le (n * stride) list (leb-true _ _ h)

module _ (first : ℕ) (r : Record) (n : Counts) (l : Walked) (t : Lent) (p : Passed first n l t) where
  rows : List (List ℕ)
  rows = rows_of t

  -- the entries of the table, and what stands behind them before and after
  abbrev heads : Lists
  heads = record {
    labels = take (total labels_at (rows_of t) * label_row) t.lists.labels;
    pools = take (total pools_at (rows_of t) * pool_row) t.lists.pools;
    jump_tables = take (total jump_tables_at (rows_of t) * jump_table_row) t.lists.jump_tables;
    inline_tables = take (total inline_tables_at (rows_of t) * inline_table_row) t.lists.inline_tables;
    calls = take (total calls_at (rows_of t) * call_row) t.lists.calls;
  }

  abbrev tails : Lists
  tails = record {
    labels = drop (total labels_at (rows_of t) * label_row) t.lists.labels;
    pools = drop (total pools_at (rows_of t) * pool_row) t.lists.pools;
    jump_tables = drop (total jump_tables_at (rows_of t) * jump_table_row) t.lists.jump_tables;
    inline_tables = drop (total inline_tables_at (rows_of t) * inline_table_row) t.lists.inline_tables;
    calls = drop (total calls_at (rows_of t) * call_row) t.lists.calls;
  }

  -- m's rows at the front of what stood behind
  behind : ℕ → ℕ → List (List ℕ) → List ℕ → List ℕ
  behind stride at m list = flat m ++ drop (at * stride + length (flat m)) list

  abbrev m : Maps
  m = maps_in n l

  abbrev news : Lists
  news = record {
    labels = flat m.labels ++ drop (total labels_at (rows_of t) * label_row + length (flat m.labels)) t.lists.labels;
    pools = flat m.pools ++ drop (total pools_at (rows_of t) * pool_row + length (flat m.pools)) t.lists.pools;
    jump_tables = flat m.jump_tables ++ drop (total jump_tables_at (rows_of t) * jump_table_row + length (flat m.jump_tables)) t.lists.jump_tables;
    inline_tables = flat m.inline_tables ++ drop (total inline_tables_at (rows_of t) * inline_table_row + length (flat m.inline_tables)) t.lists.inline_tables;
    calls = flat m.calls ++ drop (total calls_at (rows_of t) * call_row + length (flat m.calls)) t.lists.calls;
  }

  exact : Exact (rows_of t) heads
  unfolding fits_lists
  exact =
      let a = both_true _ _ p.lists in
      let b = both_true _ _ a.1 in
      let c = both_true _ _ b.1 in
      let d = both_true _ _ c.1 in
      record {
        labels = front label_row _ t.lists.labels a.0;
        pools = front pool_row _ t.lists.pools b.0;
        jump_tables = front jump_table_row _ t.lists.jump_tables c.0;
        inline_tables = front inline_table_row _ t.lists.inline_tables d.0;
        calls = front call_row _ t.lists.calls d.1;
      }

  before : joined heads tails ≡ t.lists
  before =
      rw (
        take-append-drop (total labels_at (rows_of t) * label_row) t.lists.labels,
        take-append-drop (total pools_at (rows_of t) * pool_row) t.lists.pools,
        take-append-drop (total jump_tables_at (rows_of t) * jump_table_row) t.lists.jump_tables,
        take-append-drop (total inline_tables_at (rows_of t) * inline_table_row) t.lists.inline_tables,
        take-append-drop (total calls_at (rows_of t) * call_row) t.lists.calls,
      )

  after : filled (used t) m t.lists ≡ joined heads news
  unfolding put
  after = refl

  -- the rows of all functions
  pub rows-after : map_in function_row (t.count + 1) (put t.functions (t.count * function_row) (row_of r n)) ≡ rows_of t ++ (row_of r n ∷ [])
  unfolding put row_of
  rows-after =
      rw (add-one t.count) (map_more function_row t.count (take (t.count * function_row) t.functions) (row_of r n) _ (length-take-le _ t.functions p.room) refl)
      ∙ ap (λ (rs : List (List ℕ)). rs ++ (row_of r n ∷ [])) (map_in-front function_row t.count t.functions)

  read : (stride count : ℕ) (list rest : List ℕ) → count * stride ≤ length list → map_in stride count (flat (map_in stride count list) ++ rest) ≡ map_in stride count list
  read stride count list rest h =
      ap (λ (i : ℕ). map_in stride i (flat (map_in stride count list) ++ rest)) (sym (map-length stride count list))
      ∙ map_back stride (map_in stride count list) rest (map-wide stride count list h)

  -- the last one, read back
  last-after : function_in (row_of r n) news ≡ function_of r m
  unfolding function_in row_of function_of
  last-after =
      let h = passed-held first n l t p in
      rw (
        read label_row n.labels l.labels _ h.labels.fits,
        read pool_row n.pools l.pools _ h.pools.fits,
        read jump_table_row n.jump_tables l.jump_tables _ h.jump_tables.fits,
        read inline_table_row n.inline_tables l.inline_tables _ h.inline_tables.fits,
        read call_row n.calls l.calls _ h.calls.fits,
      )

  pub table-after : table_of (appended r n m t) ≡ table_of t ++ (function_of r m ∷ [])
  unfolding appended
  table-after =
      ap (λ (rs : List (List ℕ)). functions_in rs (filled (used t) m t.lists)) rows-after
      ∙ ap (functions_in (rows_of t ++ (row_of r n ∷ []))) after
      ∙ functions-more (rows_of t) (row_of r n) heads news exact
      ∙ ap (λ (fs : List Function). fs ++ (function_in (row_of r n) news ∷ [])) (sym (functions-front (rows_of t) heads tails exact) ∙ ap (functions_in (rows_of t)) before)
      ∙ ap (λ (f : Function). functions_in (rows_of t) t.lists ++ (f ∷ [])) last-after

-- an append that was not refused
pub done-appended : (r : Record) (n : Counts) (l : Walked) (t : Lent) (u : Counts) → Ok u ≡ checked r.first_instruction n l t → Appended r n l t (Ok tt) (appended r n (maps_in n l) t)
unfolding answer
done-appended r n l t u h =
    record { says = rw (← h); leaves = refl; holds = table-after r.first_instruction r n l t (ok-passed r.first_instruction n l t u h).0 }

-- the same, as the code makes it: the row, the entries, and one function more
pub put-appended : (r : Record) (n : Counts) (l : Walked) (t : Lent) (u : Counts) (row functions : List ℕ) (after : Lent) → Ok u ≡ checked r.first_instruction n l t
    → row ≡ row_of r n → functions ≡ put t.functions (t.count * function_row) row
    → after ≡ with_lists (filled u (maps_in n l) t.lists) (record { functions = functions; count = t.count; lists = t.lists })
    → Appended r n l t (Ok tt) (record { functions = after.functions; count = after.count + 1; lists = after.lists })
unfolding appended
put-appended r n l t u row functions after h is put moved =
    rw (moved, put, is, (ok-passed r.first_instruction n l t u h).1) (done-appended r n l t u h)
