-- The laws of a table's file: how long its parts are, and the parts of an entry.
-- Assumes nothing.
use Rattle.base.proofs.Prelude.{◌∙◌, refl, sym, ap, ◌≡◌, List, [], ◌∷◌, ◌++◌, map, ◌≤◌, ◌<◌, ℕ, ◌+◌, ◌*◌, ◌/◌, suc, arith, length, take, drop, length-append, take_at, drop_at, length-take-le}
use Rattle.base.proofs.Prelude.{true, false, Bool, eqb, get_or, append-nil, drop_of_length-le, drop-cons, add-one, ◌-◌, leb, leb-true, zero-mul, suc-mul, length-drop, take-append-drop}
use mir.Val.{bool_byte}
use Rattle.std.proofs.lemmas.List.{take_all, take_more, length-map}
use Rattle.std.specs.List.{flat_map, sum_by}
use Rattle.std.proofs.lemmas.List.Sums.{sum_by-cons, sum_by_push}
use Rattle.std.specs.Simd.{first_chunks}
use Rattle.std.proofs.lemmas.Grind.{flat_map-append}
use Rattle.std.proofs.lemmas.List.Folds.{flat_map-map}
use native.Mathlib.Nat.{mul-div_cancel}
use Rattle.base.specs.Choice.{pick}
use Rattle.base.proofs.ChoiceLaws.{both_first, both-second}
use Rattle.rows.specs.Map.{map_in, Wide}
use Rattle.rows.proofs.MapLaws.{map-length, map-wide, chunks-are}
use Rattle.text.specs.declared.writer.Writer.{Writer}
use Rattle.text.specs.Writers.{HasRoom}
use Rattle.table.proofs.Pieces.{room_first}
use Rattle.table.specs.Table.{Function}
use Rattle.table.specs.Split.{Cut, Split, rows_in, fits_row}
use Rattle.table.specs.Held.{function_row, label_row, pool_row, jump_table_row, inline_table_row, call_row, saved_registers_at, labels_at, pools_at, jump_tables_at, inline_tables_at}
use Rattle.table.specs.Held.{Lists, flag, flagged, function_in, functions_in, past, fits_lists}
use Rattle.table.specs.File.{number, numbers, entry, entries, heading, function, body}
use Rattle.table.specs.Own.{Own, heading_in, flags, entries_in, row_len, rows_len}
use Rattle.table.proofs.HeldLaws.{map_in-front, fits-lists-split}

pub number-length : (n : ℕ) → length (number n) ≡ 4
number-length n = refl

pub numbers-length : (ns : List ℕ) → length (flat_map number ns) ≡ 4 * length ns
numbers-length [] = refl
numbers-length (n ∷ ns) = let more = numbers-length ns in simp length-append (omega arith)

-- an entry's numbers, and its flags
pub entry-flagged : (n : ℕ) (row : List ℕ) → n ≤ length row → entry n (flagged n row) ≡ numbers (take n row) ++ flags (drop n row)
unfolding entry flagged
entry-flagged n row h =
    let short : length (take n row) ≡ n = length-take-le n row h in
    rw (take_at (take n row) (map flag (drop n row)) n short, drop_at (take n row) (map flag (drop n row)) n short)

-- a flag as the code has it
flag_bit : (b : Bool) → pick b 1 0 ≡ bool_byte b
flag_bit true = refl
flag_bit false = refl

pub flag_byte : (n : ℕ) → flag n ≡ bool_byte (eqb n 1)
unfolding flag
flag_byte n = flag_bit (eqb n 1)

-- rows of n numbers have no flags
flagged-wide : (n : ℕ) (rows : List (List ℕ)) → Wide n rows → map (flagged n) rows ≡ rows
unfolding flagged
flagged-wide n [] w = refl
flagged-wide n (row ∷ rows) w =
    let all : length row ≤ n = omega (arith, w.0) in
    rw (take_all n row all, drop_of_length-le row all, append-nil row, flagged-wide n rows w.1)

-- the library's chunks are the rows of a list's entries
pub entries-chunks : (k n : ℕ) (list : List ℕ) (chunks : List (List ℕ)) → chunks ≡ first_chunks k (length list / k) list → length chunks ≡ length list / k
    → entries_in k n list ≡ flat_map (λ row. entry n (flagged n row)) chunks
unfolding entries
entries-chunks k n list chunks e long =
    let same : chunks ≡ rows_in k list = sym (take_all (length list / k) chunks (omega arith)) ∙ rw e (chunks-are k _ _ list (omega arith)) in
    rw same (flat_map-map (entry n) (flagged n) (rows_in k list))

-- ---- lists that hold one function's entries

rows-own : (k n : ℕ) (list : List ℕ) → 0 < k → length list ≡ n * k → rows_in k list ≡ map_in k n list
rows-own k n list some e = rw (e, mul-div_cancel n some)

-- entries that are numbers alone, and those with flags
plain-own : (k n : ℕ) (list : List ℕ) → 0 < k → length list ≡ n * k → entries_in k k list ≡ entries k (map_in k n list)
plain-own k n list some e = rw (rows-own k n list some e, flagged-wide k (map_in k n list) (map-wide k n list (omega arith)))

-- a row without its saved registers is its nine other numbers
nine : (row : List ℕ) → length row ≡ function_row → heading_in row
    ≡ get_or row 0 0 ∷ get_or row 1 0 ∷ get_or row 2 0 ∷ get_or row 3 0
    ∷ get_or row 5 0 ∷ get_or row 6 0 ∷ get_or row 7 0 ∷ get_or row 8 0 ∷ get_or row 9 0 ∷ []
nine (a ∷ b ∷ c ∷ d ∷ s ∷ e ∷ f ∷ g ∷ h ∷ i ∷ []) l = refl
nine _ l = absurd (omega arith)

pub heading-own : (row : List ℕ) (l : Lists) → length row ≡ function_row → heading (function_in row l) ≡ heading_in row
unfolding heading function_in
heading-own row l e =
    simp (map-length, length-map) (sym (nine row e))

heading-length : (f : Function) → length (heading f) ≡ 9
unfolding heading
heading-length f = refl

-- the numbers before the saved registers, and those behind them
pub heading-numbers : (row : List ℕ) → length row ≡ function_row
    → numbers (heading_in row) ≡ numbers (take saved_registers_at row) ++ numbers (take 5 (drop labels_at row))
unfolding numbers
heading-numbers row e =
    let all : take 5 (drop labels_at row) ≡ drop labels_at row = take_all 5 (drop labels_at row) (rw length-drop (omega (arith, e))) in
    rw all (flat_map-append number (take saved_registers_at row) (drop labels_at row))

pub numbers_long : (ns : List ℕ) → length (numbers ns) ≡ 4 * length ns
unfolding numbers
numbers_long ns = numbers-length ns

-- a function's text from its row and its lists
pub function-own : (row : List ℕ) (l : Lists) → length row ≡ function_row → Own row l
    → function (function_in row l)
    ≡ ((((numbers (heading_in row) ++ entries_in label_row 1 l.labels) ++ entries_in pool_row 2 l.pools) ++ entries_in jump_table_row 2 l.jump_tables)
    ++ entries_in inline_table_row 2 l.inline_tables) ++ entries_in call_row 3 l.calls
unfolding function function_in
function-own row l e own =
    rw (
      heading-own row l e,
      plain-own label_row _ l.labels (omega arith) own.labels,
      rows-own pool_row _ l.pools (omega arith) own.pools,
      plain-own jump_table_row _ l.jump_tables (omega arith) own.jump_tables,
      plain-own inline_table_row _ l.inline_tables (omega arith) own.inline_tables,
      rows-own call_row _ l.calls (omega arith) own.calls,
    )

-- each of its pieces has room where all have
pub record FunctionRoom (w : Writer) (row : List ℕ) (l : Lists) : Type 0 where
  pub heading : HasRoom w 36
  pub labels : HasRoom w (length (numbers (heading_in row) ++ entries_in label_row 1 l.labels))
  pub pools : HasRoom w (length ((numbers (heading_in row) ++ entries_in label_row 1 l.labels) ++ entries_in pool_row 2 l.pools))
  pub jump_tables : HasRoom w (length (((numbers (heading_in row) ++ entries_in label_row 1 l.labels) ++ entries_in pool_row 2 l.pools) ++ entries_in jump_table_row 2 l.jump_tables))
  pub inline_tables : HasRoom w (length ((((numbers (heading_in row) ++ entries_in label_row 1 l.labels) ++ entries_in pool_row 2 l.pools) ++ entries_in jump_table_row 2 l.jump_tables) ++ entries_in inline_table_row 2 l.inline_tables))
  pub calls : HasRoom w (length (((((numbers (heading_in row) ++ entries_in label_row 1 l.labels) ++ entries_in pool_row 2 l.pools) ++ entries_in jump_table_row 2 l.jump_tables) ++ entries_in inline_table_row 2 l.inline_tables) ++ entries_in call_row 3 l.calls))

pub function-room : (w : Writer) (row : List ℕ) (l : Lists) → length row ≡ function_row → Own row l → HasRoom w (length (function (function_in row l))) → FunctionRoom w row l
function-room w row l e own room =
    let calls = rw (function-own row l e own) at room in
    let long : length (heading_in row) ≡ 9 = ap length (sym (heading-own row l e)) ∙ heading-length (function_in row l) in
    let inline_tables = room_first w _ (entries_in call_row 3 l.calls) calls in
    let jump_tables = room_first w _ (entries_in inline_table_row 2 l.inline_tables) inline_tables in
    let pools = room_first w _ (entries_in jump_table_row 2 l.jump_tables) jump_tables in
    let labels = room_first w _ (entries_in pool_row 2 l.pools) pools in
    record {
      heading = rw (numbers_long, long) at (room_first w (numbers (heading_in row)) (entries_in label_row 1 l.labels) labels);
      labels = labels;
      pools = pools;
      jump_tables = jump_tables;
      inline_tables = inline_tables;
      calls = calls;
    }

-- ---- a function's own lists, cut off the front

cut-length : {n : ℕ} {list front back : List ℕ} → Cut n list front back → length front ≡ n
cut-length cut = ap length cut.first ∙ length-take-le _ _ cut.fits

cut-rows : (k n : ℕ) {list front back : List ℕ} → Cut (n * k) list front back → map_in k n front ≡ map_in k n list
cut-rows k n {list} cut = rw cut.first (map_in-front k n list)

module _ {row : List ℕ} {l own others : Lists} (cut : Split row l own others) where
  pub split-own : Own row own
  split-own = record {
    labels = cut-length cut.labels;
    pools = cut-length cut.pools;
    jump_tables = cut-length cut.jump_tables;
    inline_tables = cut-length cut.inline_tables;
    calls = cut-length cut.calls;
  }

  pub split-function : function_in row own ≡ function_in row l
  unfolding function_in
  split-function =
      rw (cut-rows label_row _ cut.labels, cut-rows pool_row _ cut.pools, cut-rows jump_table_row _ cut.jump_tables)
      (rw (cut-rows inline_table_row _ cut.inline_tables, cut-rows call_row _ cut.calls))

-- ---- functions off the front

pub functions-length : (rows : List (List ℕ)) (l : Lists) → length (functions_in rows l) ≡ length rows
unfolding functions_in
functions-length [] l = refl
functions-length (row ∷ rows) l = ap suc (functions-length rows (past row l))

-- what is left, where a function is next
pub record Next (row : List ℕ) (rows : List (List ℕ)) (i : ℕ) (all : List Function) (l : Lists) : Type 0 where
  pub next : get_or all i (function_in row l) ≡ function_in row l
  pub others : functions_in rows (past row l) ≡ drop (i + 1) all

pub next-function : (row : List ℕ) (rows : List (List ℕ)) (i : ℕ) (all : List Function) (l : Lists) → i < length all
    → functions_in (row ∷ rows) l ≡ drop i all → Next row rows i all l
unfolding functions_in
next-function row rows i all l h e =
    let here : function_in row l ∷ functions_in rows (past row l) ≡ get_or all i (function_in row l) ∷ drop (i + 1) all =
    e ∙ drop-cons all i (function_in row l) h ∙ rw add-one in
    record { next = cc; others = cc }

pub fits-next : (row : List ℕ) (rows : List (List ℕ)) (l : Lists) → fits_lists (row ∷ rows) l ≡ true
    → (fits_row row l ≡ true) × (fits_lists rows (past row l) ≡ true)
fits-next row rows l e =
    let parts = sym (fits-lists-split row rows l) ∙ e in
    (both_first _ _ parts, both-second _ _ parts)

-- ---- how long a file is

pub rows-len-more : (rows : List (List ℕ)) (i : ℕ) → i < length rows → rows_len (take (i + 1) rows) ≡ rows_len (take i rows) + row_len (get_or rows i [])
unfolding rows_len
rows-len-more rows i h =
    let sums = ap (sum_by row_len) (take_more rows i [] h) ∙ sum_by_push row_len (take i rows) (get_or rows i []) in
    omega (arith, sums)

entry-length : (n : ℕ) (row : List ℕ) → n ≤ length row → length (entry n row) ≡ 4 * n + (length row - n)
unfolding entry
entry-length n row h =
    let short : length (take n row) ≡ n = length-take-le n row h in
    rw (length-append, numbers_long (take n row), short, length-drop)

entries-length : (k n : ℕ) (rows : List (List ℕ)) → n ≤ k → Wide k rows → length (entries n rows) ≡ length rows * (4 * n + (k - n))
unfolding entries
entries-length k n [] h w = sym (zero-mul (4 * n + (k - n)))
entries-length k n (row ∷ rows) h w =
    let width : length row ≡ k = w.0 in
    let here : length (entry n row) ≡ 4 * n + (k - n) = entry-length n row (omega arith) ∙ ap (λ (m : ℕ). 4 * n + (m - n)) width in
    let more : length (flat_map (entry n) rows) ≡ length rows * (4 * n + (k - n)) = entries-length k n rows h w.1 in
    let step = suc-mul (length rows) (4 * n + (k - n)) in
    rw length-append (omega (arith, here, more, step))

pub flagged-length : (n : ℕ) (row : List ℕ) → length (flagged n row) ≡ length row
unfolding flagged
flagged-length n row = rw (length-append, length-map, ← length-append, take-append-drop)

pub flagged-kept : (k n : ℕ) (rows : List (List ℕ)) → Wide k rows → Wide k (map (flagged n) rows)
flagged-kept k n [] w = tt
flagged-kept k n (row ∷ rows) w = (flagged-length n row ∙ w.0, flagged-kept k n rows w.1)

-- entries in a list that has them
plain-length : (k c : ℕ) (list : List ℕ) → leb (c * k) (length list) ≡ true → length (entries k (map_in k c list)) ≡ c * (4 * k)
plain-length k c list h =
    let none : 4 * k + (k - k) ≡ 4 * k = omega arith in
    entries-length k k (map_in k c list) (omega arith) (map-wide k c list (leb-true _ _ h)) ∙ rw (map-length, none)

with-flags-length : (k n c : ℕ) (list : List ℕ) → n ≤ k → leb (c * k) (length list) ≡ true
    → length (entries n (map (flagged n) (map_in k c list))) ≡ c * (4 * n + (k - n))
with-flags-length k n c list low h =
    entries-length k n (map (flagged n) (map_in k c list)) low (flagged-kept k n _ (map-wide k c list (leb-true _ _ h)))
    ∙ rw (length-map, map-length)

pub function-length : (row : List ℕ) (l : Lists) → fits_row row l ≡ true → length (function (function_in row l)) ≡ row_len row
unfolding fits_row function function_in
function-length row l e =
    let labels = both_first _ _ e in
    let four = both-second (leb (get_or row labels_at 0 * label_row) (length l.labels)) _ e in
    let pools = both_first _ _ four in
    let three = both-second (leb (get_or row pools_at 0 * pool_row) (length l.pools)) _ four in
    let jumps : leb (get_or row jump_tables_at 0 * jump_table_row) (length l.jump_tables) ≡ true = both_first _ _ three in
    let two = both-second (leb (get_or row jump_tables_at 0 * jump_table_row) (length l.jump_tables)) _ three in
    let inlines : leb (get_or row inline_tables_at 0 * inline_table_row) (length l.inline_tables) ≡ true = both_first _ _ two in
    let calls = both-second (leb (get_or row inline_tables_at 0 * inline_table_row) (length l.inline_tables)) _ two in
    let a = plain-length label_row _ l.labels labels in
    let b = with-flags-length pool_row 2 _ l.pools (omega arith) pools in
    let c = plain-length jump_table_row _ l.jump_tables jumps in
    let d = plain-length inline_table_row _ l.inline_tables inlines in
    let f = with-flags-length call_row 3 _ l.calls (omega arith) calls in
    simp (length-append, numbers_long, heading-length) (omega (arith, a, b, c, d, f))

pub functions-long : (rows : List (List ℕ)) (l : Lists) → fits_lists rows l ≡ true → length (flat_map function (functions_in rows l)) ≡ sum_by row_len rows
unfolding functions_in
functions-long [] l e = refl
functions-long (row ∷ rows) l e =
    let parts = fits-next row rows l e in
    rw (length-append, function-length row l parts.0, functions-long rows (past row l) parts.1, sum_by-cons row_len row rows)

-- what follows the length is as long as the rows say
pub body_long : (rows : List (List ℕ)) (l : Lists) → fits_lists rows l ≡ true → length (body (functions_in rows l)) ≡ rows_len rows
unfolding body rows_len
body_long rows l e = let all = functions-long rows l e in simp length-append (omega (arith, all))

-- each function has its nine numbers
pub rows-many : (rows : List (List ℕ)) → 36 * length rows + 5 ≤ rows_len rows
unfolding rows_len
rows-many [] = omega arith
rows-many (row ∷ rows) =
    let more = rows-many rows in
    let step = sum_by-cons row_len row rows in
    omega (arith, more, step)
