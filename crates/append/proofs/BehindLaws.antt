-- Lists that hold a table with one function more: it holds the functions before, and that one behind them.
-- Assumes nothing.
use Rattle.base.proofs.Prelude.{◌∙◌, refl, ◌≡◌, ap, List, [], ◌∷◌, ◌++◌, append_assoc, ◌≤◌, ℕ, ◌+◌, ◌*◌, suc, zero}
use Rattle.base.proofs.Prelude.{arith, length, get_or, take, drop, length-drop, suc-mul, zero-mul}
use Rattle.std.proofs.Math.Seq.{take-append_seam, drop-append_seam}
use Rattle.std.proofs.lemmas.List.{take-append-le, drop-append-le, nil_from_length}
use Rattle.std.proofs.lemmas.List.Sums.{sum_by-cons}
use Rattle.rows.specs.Map.{Wide, flat, map_in}
use Rattle.table.specs.Held.{label_row, pool_row, jump_table_row, inline_table_row, call_row, labels_at, pools_at, jump_tables_at, inline_tables_at, calls_at}
use Rattle.table.specs.Held.{Lists, function_in, past, functions_in}
use Rattle.append.specs.Append.{total}

-- ---- rows at the front of a list

map_first : (k n : ℕ) (xs ys : List ℕ) → n * k ≤ length xs → map_in k n (xs ++ ys) ≡ map_in k n xs
unfolding map_in
map_first k zero xs ys h = refl
map_first k (suc n) xs ys h =
    let e : suc n * k ≡ n * k + k = suc-mul n k in
    let here : k ≤ length xs = omega arith in
    let others : n * k ≤ length (drop k xs) = simp length-drop (omega arith) in
    rw (take-append-le k xs ys here, drop-append-le k xs ys here, map_first k n (drop k xs) ys others)

-- a map's rows are read back, whatever follows them
pub map_back : (k : ℕ) (m : List (List ℕ)) (zs : List ℕ) → Wide k m → map_in k (length m) (flat m ++ zs) ≡ m
unfolding map_in flat
map_back k [] zs w = refl
map_back k (r ∷ rs) zs w =
    let t : take k (r ++ (flat rs ++ zs)) ≡ r = rw (← w.0) (take-append_seam r (flat rs ++ zs)) in
    let d : drop k (r ++ (flat rs ++ zs)) ≡ flat rs ++ zs = rw (← w.0) (drop-append_seam r (flat rs ++ zs)) in
    rw (append_assoc r (flat rs) zs, t, d, map_back k rs zs w.1)

-- one row more
pub map_more : (k n : ℕ) (xs row rest : List ℕ) → length xs ≡ n * k → length row ≡ k → map_in k (suc n) (xs ++ (row ++ rest)) ≡ map_in k n xs ++ (row ∷ [])
unfolding map_in
map_more k zero xs row rest h w =
    let e : xs ≡ [] = nil_from_length xs (h ∙ zero-mul k) in
    let t : take k (row ++ rest) ≡ row = rw (← w) (take-append_seam row rest) in
    rw (e, t)
map_more k (suc n) xs row rest h w =
    let e : suc n * k ≡ n * k + k = suc-mul n k in
    let here : k ≤ length xs = omega arith in
    let others : length (drop k xs) ≡ n * k = simp length-drop (omega arith) in
    rw (take-append-le k xs (row ++ rest) here, drop-append-le k xs (row ++ rest) here)
    (ap (λ (rs : List (List ℕ)). take k xs ∷ rs) (map_more k n (drop k xs) row rest others w))

-- ---- five lists, front and back

abbrev pub joined : Lists → Lists → Lists
joined a b = record {
  labels = a.labels ++ b.labels;
  pools = a.pools ++ b.pools;
  jump_tables = a.jump_tables ++ b.jump_tables;
  inline_tables = a.inline_tables ++ b.inline_tables;
  calls = a.calls ++ b.calls;
}

-- they hold these functions' entries and nothing else
pub record Exact (rows : List (List ℕ)) (a : Lists) : Type 0 where
  pub labels : length a.labels ≡ total labels_at rows * label_row
  pub pools : length a.pools ≡ total pools_at rows * pool_row
  pub jump_tables : length a.jump_tables ≡ total jump_tables_at rows * jump_table_row
  pub inline_tables : length a.inline_tables ≡ total inline_tables_at rows * inline_table_row
  pub calls : length a.calls ≡ total calls_at rows * call_row

total-more : (at : ℕ) (row : List ℕ) (rows : List (List ℕ)) → total at (row ∷ rows) ≡ get_or row at 0 + total at rows
total-more at row rows = sum_by-cons (λ (r : List ℕ). get_or r at 0) row rows

exact-past : (row : List ℕ) (rows : List (List ℕ)) (a : Lists) → Exact (row ∷ rows) a → Exact rows (past row a)
unfolding past
exact-past row rows a e = record {
  labels = simp length-drop (omega (arith, total-more labels_at row rows, e.labels));
  pools = simp length-drop (omega (arith, total-more pools_at row rows, e.pools));
  jump_tables = simp length-drop (omega (arith, total-more jump_tables_at row rows, e.jump_tables));
  inline_tables = simp length-drop (omega (arith, total-more inline_tables_at row rows, e.inline_tables));
  calls = simp length-drop (omega (arith, total-more calls_at row rows, e.calls));
}

module _ (row : List ℕ) (rows : List (List ℕ)) (a : Lists) (e : Exact (row ∷ rows) a) where
  labels-in : get_or row labels_at 0 * label_row ≤ length a.labels
  labels-in = omega (arith, total-more labels_at row rows, e.labels)

  pools-in : get_or row pools_at 0 * pool_row ≤ length a.pools
  pools-in = omega (arith, total-more pools_at row rows, e.pools)

  jump_tables-in : get_or row jump_tables_at 0 * jump_table_row ≤ length a.jump_tables
  jump_tables-in = omega (arith, total-more jump_tables_at row rows, e.jump_tables)

  inline_tables-in : get_or row inline_tables_at 0 * inline_table_row ≤ length a.inline_tables
  inline_tables-in = omega (arith, total-more inline_tables_at row rows, e.inline_tables)

  calls-in : get_or row calls_at 0 * call_row ≤ length a.calls
  calls-in = omega (arith, total-more calls_at row rows, e.calls)

  past-joined : (b : Lists) → past row (joined a b) ≡ joined (past row a) b
  unfolding past
  past-joined b =
      rw (
        drop-append-le _ a.labels b.labels labels-in,
        drop-append-le _ a.pools b.pools pools-in,
        drop-append-le _ a.jump_tables b.jump_tables jump_tables-in,
        drop-append-le _ a.inline_tables b.inline_tables inline_tables-in,
        drop-append-le _ a.calls b.calls calls-in,
      )

  function-joined : (b : Lists) → function_in row (joined a b) ≡ function_in row a
  unfolding function_in
  function-joined b =
      rw (
        map_first label_row _ a.labels b.labels labels-in,
        map_first pool_row _ a.pools b.pools pools-in,
        map_first jump_table_row _ a.jump_tables b.jump_tables jump_tables-in,
        map_first inline_table_row _ a.inline_tables b.inline_tables inline_tables-in,
        map_first call_row _ a.calls b.calls calls-in,
      )

none : (a : Lists) → Exact [] a → (b : Lists) → joined a b ≡ b
none a e b =
    rw (
      nil_from_length a.labels e.labels,
      nil_from_length a.pools e.pools,
      nil_from_length a.jump_tables e.jump_tables,
      nil_from_length a.inline_tables e.inline_tables,
      nil_from_length a.calls e.calls,
    )

-- the functions of the front, whatever follows
pub functions-front : (rows : List (List ℕ)) (a b : Lists) → Exact rows a → functions_in rows (joined a b) ≡ functions_in rows a
unfolding functions_in
functions-front [] a b e = refl
functions-front (row ∷ rows) a b e =
    rw (function-joined row rows a e b, past-joined row rows a e b, functions-front rows (past row a) b (exact-past row rows a e))

-- and one more, whose entries come next
pub functions-more : (rows : List (List ℕ)) (row : List ℕ) (a b : Lists) → Exact rows a
    → functions_in (rows ++ (row ∷ [])) (joined a b) ≡ functions_in rows a ++ (function_in row b ∷ [])
unfolding functions_in
functions-more [] row a b e = rw (none a e b)
functions-more (r ∷ rows) row a b e =
    rw (function-joined r rows a e b, past-joined r rows a e b, functions-more rows row (past r a) b (exact-past r rows a e))
