-- The table of lent lists that the writer does not refuse: every number fits 32 bits.
-- Assumes nothing.
use Rattle.base.proofs.Prelude.{refl, ◌≡◌, true, false, Bool, eqb, leb, ltb, List, [], ◌∷◌, ◌++◌, map, ◌<◌, ℕ, ◌*◌, ◌^◌, suc, zero, arith, length, get_or, take, drop, leb-true, ltb-true}
use Rattle.std.specs.Prelude.{Ok, Err}
use Rattle.base.specs.Choice.{pick}
use Rattle.base.specs.declared.refusal.Refusal.{Refusal}
use Rattle.base.proofs.ChoiceLaws.{both_first, both-second}
use Rattle.rows.specs.Map.{map_in, Wide}
use Rattle.rows.proofs.MapLaws.{map-wide}
use Rattle.table.specs.declared.Table.{Table}
use Rattle.table.specs.Held.{function_row, label_row, pool_row, jump_table_row, inline_table_row, call_row, saved_registers_at, labels_at, pools_at, jump_tables_at, inline_tables_at}
use Rattle.table.specs.Held.{Lists, lists_of, flag, flagged, function_in, past, functions_in, fits_lists, is_sound, held_by, sound}
use Rattle.table.specs.Split.{fits_row}
use Rattle.table.specs.File.{body, fits, answer}
use Rattle.table.proofs.FileLaws.{flagged-kept, heading-own, functions-length, fits-next, body_long, rows-many}
use Rattle.table_laws.specs.Files.{Words, Accepted}
use Rattle.table_laws.proofs.BytesLaws.{RowWords, words-take, words-drop}
use Rattle.table_laws.proofs.FunctionLaws.{Narrow, Fits, AllFit}

-- ---- rows of lists

row-words : (k n : ℕ) (list : List ℕ) → Words list → RowWords (map_in k n list)
unfolding map_in
row-words k zero list w = tt
row-words k (suc n) list w = (words-take k list w, row-words k n (drop k list) (words-drop k list w))

narrow : (k n : ℕ) (list : List ℕ) → leb (n * k) (length list) ≡ true → Words list → Narrow k (map_in k n list)
narrow k n list h w = record { wide = map-wide k n list (leb-true _ _ h); words = row-words k n list w }

words-append : (xs ys : List ℕ) → Words xs → Words ys → Words (xs ++ ys)
words-append [] ys v w = w
words-append (x ∷ xs) ys v w = (v.0, words-append xs ys v.1 w)

flag-word : (n : ℕ) → flag n < 2 ^ 32
unfolding flag
flag-word n = step (eqb n 1)
  where
    step : (b : Bool) → pick b 1 0 < 2 ^ 32
    step true = omega arith
    step false = omega arith

flags-words : (ns : List ℕ) → Words (map flag ns)
flags-words [] = tt
flags-words (n ∷ ns) = (flag-word n, flags-words ns)

flagged-words : (n : ℕ) (row : List ℕ) → Words row → Words (flagged n row)
unfolding flagged
flagged-words n row w = words-append (take n row) (map flag (drop n row)) (words-take n row w) (flags-words (drop n row))

rows-flagged : (n : ℕ) (rows : List (List ℕ)) → RowWords rows → RowWords (map (flagged n) rows)
rows-flagged n [] w = tt
rows-flagged n (row ∷ rows) w = (flagged-words n row w.0, rows-flagged n rows w.1)

narrow-flagged : (k n : ℕ) (rows : List (List ℕ)) → Narrow k rows → Narrow k (map (flagged n) rows)
narrow-flagged k n rows v = record { wide = flagged-kept k n rows v.wide; words = rows-flagged n rows v.words }

-- ---- functions

record ListWords (l : Lists) : Type 0 where
  labels : Words l.labels
  pools : Words l.pools
  jump_tables : Words l.jump_tables
  inline_tables : Words l.inline_tables
  calls : Words l.calls

words-past : (row : List ℕ) (l : Lists) → ListWords l → ListWords (past row l)
unfolding past
words-past row l w = record {
  labels = words-drop _ l.labels w.labels;
  pools = words-drop _ l.pools w.pools;
  jump_tables = words-drop _ l.jump_tables w.jump_tables;
  inline_tables = words-drop _ l.inline_tables w.inline_tables;
  calls = words-drop _ l.calls w.calls;
}

function-fits : (row : List ℕ) (l : Lists) → length row ≡ function_row → Words row → fits_row row l ≡ true → ListWords l → Fits (function_in row l)
unfolding fits_row function_in
function-fits row l ten v e w =
    let labels = both_first _ _ e in
    let four = both-second (leb (get_or row labels_at 0 * label_row) (length l.labels)) _ e in
    let pools = both_first _ _ four in
    let three = both-second (leb (get_or row pools_at 0 * pool_row) (length l.pools)) _ four in
    let jumps = both_first _ _ three in
    let two = both-second (leb (get_or row jump_tables_at 0 * jump_table_row) (length l.jump_tables)) _ three in
    let inlines = both_first _ _ two in
    let calls = both-second (leb (get_or row inline_tables_at 0 * inline_table_row) (length l.inline_tables)) _ two in
    record {
      heading = rw (heading-own row l ten) (words-append _ _ (words-take saved_registers_at row v) (words-drop labels_at row v));
      labels = narrow label_row _ l.labels labels w.labels;
      pools = narrow-flagged pool_row 2 _ (narrow pool_row _ l.pools pools w.pools);
      jump_tables = narrow jump_table_row _ l.jump_tables jumps w.jump_tables;
      inline_tables = narrow inline_table_row _ l.inline_tables inlines w.inline_tables;
      calls = narrow-flagged call_row 3 _ (narrow call_row _ l.calls calls w.calls);
    }

all-fit : (rows : List (List ℕ)) (l : Lists) → Wide function_row rows → RowWords rows → fits_lists rows l ≡ true → ListWords l → AllFit (functions_in rows l)
unfolding functions_in
all-fit [] l ten v e w = tt
all-fit (row ∷ rows) l ten v e w =
    let parts = fits-next row rows l e in
    (function-fits row l ten.0 v.0 parts.0 w, all-fit rows (past row l) ten.1 v.1 parts.1 (words-past row l w))

-- ---- a table that is written

written_where : {A : Type 0} (s f : Bool) (n m : A) (a b : Refusal) → pick s (pick f (Ok n) (Err a)) (Err b) ≡ Ok m → (s ≡ true) × (f ≡ true)
written_where true true n m a b e = (refl, refl)
written_where true false n m a b e = absurd (cc)
written_where false f n m a b e = absurd (cc)

-- what is known of its table
pub record Known (t : Table) : Type 0 where
  pub fit : AllFit (held_by t)
  pub few : length (held_by t) < 2 ^ 32
  pub short : length (body (held_by t)) < 2 ^ 32

pub known : (t : Table) (places : ℕ) → Accepted t places → Known t
unfolding answer fits is_sound
known t places a =
    let rows = map_in function_row t.count t.functions.now in
    let l = lists_of t.entries in
    let parts = written_where (sound t) (fits (held_by t) places) _ _ _ _ a.written in
    let short = ltb-true _ _ (both_first (ltb (length (body (held_by t))) (2 ^ 32)) _ parts.1) in
    let room : leb (t.count * function_row) (length t.functions.now) ≡ true = both_first _ _ parts.0 in
    let have : fits_lists rows l ≡ true = both_first (fits_lists rows l) _ (both-second (leb (t.count * function_row) (length t.functions.now)) _ parts.0) in
    let ten = narrow function_row t.count t.functions.now room a.words.functions in
    let long = body_long rows l have in
    let many = functions-length rows l in
    record {
      fit = all-fit rows l ten.wide ten.words have (record { labels = a.words.labels; pools = a.words.pools; jump_tables = a.words.jump_tables; inline_tables = a.words.inline_tables; calls = a.words.calls });
      few = omega (arith, short, long, many, rows-many rows);
      short = short;
    }
