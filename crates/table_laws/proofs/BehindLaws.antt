-- What stands behind a table's counts is no part of it.
-- Assumes nothing.
use Rattle.base.proofs.Prelude.{◌∙◌, sym, refl, ap, ◌≡◌, Bool, List, [], ◌∷◌, ◌≤◌, ℕ, ◌+◌, ◌*◌, arith, leb, length, get_or, take, drop}
use native.Mathlib.Nat.{add-mul}
use lib.Seq.{take-take}
use Rattle.std.proofs.lemmas.List.{drop-take, length-take}
use Rattle.std.proofs.lemmas.List.Sums.{sum_by-cons}
use Rattle.std.specs.List.{sum_by}
use Rattle.base.specs.Choice.{both}
use Rattle.rows.specs.Map.{map_in}
use Rattle.table.specs.declared.Table.{Table}
use Rattle.table.specs.Table.{is_ascending}
use Rattle.table.specs.File.{answer}
use Rattle.table.specs.Held.{function_row, label_row, pool_row, jump_table_row, inline_table_row, call_row, labels_at, pools_at, jump_tables_at, inline_tables_at, calls_at}
use Rattle.table.specs.Held.{Lists, lists_of, function_in, past, functions_in, fits_lists, is_sound, held_by, sound}
use Rattle.table.proofs.HeldLaws.{leb_same, map_in-front, lists_same}
use Rattle.table_laws.specs.Files.{Alike, NothingBehind}

-- the entries of these functions, by their count's place
all : ℕ → List (List ℕ) → ℕ
all at rows = sum_by (λ row. get_or row at 0) rows

-- and no others
cut : ℕ → ℕ → List (List ℕ) → List ℕ → List ℕ
cut at stride rows list = take (all at rows * stride) list

module _ (at stride : ℕ) (row : List ℕ) (rows : List (List ℕ)) (list : List ℕ) where
  more : all at (row ∷ rows) * stride ≡ get_or row at 0 * stride + all at rows * stride
  unfolding all
  more = ap (λ (n : ℕ). n * stride) (sum_by-cons (λ (r : List ℕ). get_or r at 0) row rows) ∙ add-mul _ _ _

  -- the first function's entries are among them
  cut-rows : map_in stride (get_or row at 0) (cut at stride (row ∷ rows) list) ≡ map_in stride (get_or row at 0) list
  unfolding cut
  cut-rows =
      let here = get_or row at 0 * stride in
      let low : here ≤ here + all at rows * stride = omega arith in
      sym (map_in-front stride (get_or row at 0) _)
      ∙ rw (more, take-take here (here + all at rows * stride) list low) (map_in-front stride (get_or row at 0) list)

  -- and the others' behind it
  cut-past : drop (get_or row at 0 * stride) (cut at stride (row ∷ rows) list) ≡ cut at stride rows (drop (get_or row at 0 * stride) list)
  unfolding cut
  cut-past = rw more (drop-take (get_or row at 0 * stride) (all at rows * stride) list)

-- every list cut off behind them
fronts : List (List ℕ) → Lists → Lists
fronts rows l = record {
  labels = cut labels_at label_row rows l.labels;
  pools = cut pools_at pool_row rows l.pools;
  jump_tables = cut jump_tables_at jump_table_row rows l.jump_tables;
  inline_tables = cut inline_tables_at inline_table_row rows l.inline_tables;
  calls = cut calls_at call_row rows l.calls;
}

function-front : (row : List ℕ) (rows : List (List ℕ)) (l : Lists) → function_in row (fronts (row ∷ rows) l) ≡ function_in row l
unfolding function_in fronts
function-front row rows l =
    rw (cut-rows labels_at label_row row rows l.labels, cut-rows pools_at pool_row row rows l.pools)
    (rw (cut-rows jump_tables_at jump_table_row row rows l.jump_tables, cut-rows inline_tables_at inline_table_row row rows l.inline_tables, cut-rows calls_at call_row row rows l.calls))

past-front : (row : List ℕ) (rows : List (List ℕ)) (l : Lists) → past row (fronts (row ∷ rows) l) ≡ fronts rows (past row l)
unfolding past fronts
past-front row rows l =
    lists_same
    (cut-past labels_at label_row row rows l.labels)
    (cut-past pools_at pool_row row rows l.pools)
    (cut-past jump_tables_at jump_table_row row rows l.jump_tables)
    (cut-past inline_tables_at inline_table_row row rows l.inline_tables)
    (cut-past calls_at call_row row rows l.calls)

functions-front : (rows : List (List ℕ)) (l : Lists) → functions_in rows (fronts rows l) ≡ functions_in rows l
unfolding functions_in
functions-front [] l = refl
functions-front (row ∷ rows) l = rw (function-front row rows l, past-front row rows l, functions-front rows (past row l))

-- ---- number 4

-- a list reaches as far as what is cut off it
reaches : (n : ℕ) (xs ys : List ℕ) → take n xs ≡ take n ys → leb n (length xs) ≡ leb n (length ys)
reaches n xs ys e =
    let one = length-take n xs in
    let two = length-take n ys in
    let same = ap length e in
    leb_same n (length xs) n (length ys) (λ h. omega (arith, one, two, same)) (λ h. omega (arith, one, two, same))

three-tests : {a b c d e f : Bool} → a ≡ d → b ≡ e → c ≡ f → both a (both b c) ≡ both d (both e f)
three-tests p q r = rw (p, q, r)

module _ (t u : Table) (a : Alike t u) where
  rows : List (List ℕ)
  rows = map_in function_row t.count t.functions.now

  rows-alike : rows ≡ map_in function_row u.count u.functions.now
  unfolding rows
  rows-alike =
      sym (map_in-front function_row t.count t.functions.now) ∙ rw (a.functions, map_in-front function_row t.count u.functions.now, a.count)

  table-alike : held_by t ≡ held_by u
  unfolding rows all cut fronts
  table-alike =
      let lists : fronts rows (lists_of t.entries) ≡ fronts rows (lists_of u.entries) = lists_same a.labels a.pools a.jump_tables a.inline_tables a.calls in
      sym (functions-front rows (lists_of t.entries)) ∙ ap (functions_in rows) lists ∙ functions-front rows (lists_of u.entries)
      ∙ ap (λ (rs : List (List ℕ)). functions_in rs (lists_of u.entries)) rows-alike

  fits-alike : fits_lists rows (lists_of t.entries) ≡ fits_lists rows (lists_of u.entries)
  unfolding rows fits_lists
  fits-alike =
      rw (
        reaches _ _ _ a.labels,
        reaches _ _ _ a.pools,
        reaches _ _ _ a.jump_tables,
        reaches _ _ _ a.inline_tables,
        reaches _ _ _ a.calls,
      )

  sound-alike : sound t ≡ sound u
  unfolding rows is_sound
  sound-alike =
      three-tests
      (reaches _ _ _ a.functions ∙ ap (λ (n : ℕ). leb (n * function_row) (length u.functions.now)) a.count)
      (fits-alike ∙ ap (λ (rs : List (List ℕ)). fits_lists rs (lists_of u.entries)) rows-alike)
      (ap is_ascending table-alike)

  answer-alike : (places : ℕ) → answer t places ≡ answer u places
  unfolding answer
  answer-alike places = rw (sound-alike, table-alike)

pub nothing-behind : NothingBehind
nothing-behind t u a = record { table = table-alike t u a; sound = sound-alike t u a; answers = answer-alike t u a }
