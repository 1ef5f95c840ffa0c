-- The laws of a table in lent lists: one function, and those behind it.
-- Assumes nothing.
use Rattle.base.proofs.Prelude.{◌∙◌, refl, ◌≡◌, ap, true, false, Bool, List, [], ◌∷◌, map, ◌≤◌, ℕ, ◌+◌, ◌*◌, ◌/◌, ◌<◌, suc, zero}
use Rattle.base.proofs.Prelude.{arith, zero-le, suc-mul, length, get_or, take, drop, leb, length-drop, length-take-le, le-leb, lt-leb, leb-true, leb-false}
use Rattle.std.proofs.lemmas.List.Sums.{sum_by-cons}
use Rattle.std.specs.Prelude.{◌&&◌}
use Rattle.std.specs.List.{sum_by}
use native.Mathlib.Nat.{mul-div_cancel, add-mul}
use Rattle.std.proofs.lemmas.List.{drop-take}
use lib.Seq.{take-take}
use Rattle.base.specs.Choice.{both}
use Rattle.rows.specs.Map.{key_of, map_in}
use Rattle.rows.specs.Order.{ascending}
use Rattle.table.specs.Table.{entries_rise, is_ascending}
use Rattle.table.specs.Held.{label_row, pool_row, jump_table_row, inline_table_row, call_row, labels_at, pools_at, jump_tables_at, inline_tables_at, calls_at}
use Rattle.table.specs.Held.{Lists, flagged, function_in, past, functions_in, has, fits_lists, function_row, is_sound}
use Rattle.table.specs.Split.{Cut, Split, fits_row, rows_in, lists_rise, first_of, entries_sound}

-- ---- tests

pub both-false : (t : Bool) → both t false ≡ false
both-false true = refl
both-false false = refl

pub both_and : (s t : Bool) → both s t ≡ (s && t)
both_and true t = refl
both_and false t = refl

-- two tests in pairs
both-pairs : (a b c d : Bool) → both (both a b) (both c d) ≡ both (both a c) (both b d)
both-pairs true true c d = refl
both-pairs true false true d = refl
both-pairs true false false d = refl
both-pairs false b c d = refl

-- a test that is two
record Halves (x s t : Bool) : Type 0 where
  is : x ≡ both s t

-- and five of them
five-pairs : {x y z v w a b c d e f g h i j : Bool} → Halves x a f → Halves y b g → Halves z c h → Halves v d i → Halves w e j
    → both x (both y (both z (both v w))) ≡ both (both a (both b (both c (both d e)))) (both f (both g (both h (both i j))))
five-pairs {a} {b} {c} {d} {e} {f} {g} {h} {i} {j} p q r s t =
    rw (p.is, q.is, r.is, s.is, t.is)
    (ap (both (both a f)) (ap (both (both b g)) (ap (both (both c h)) (both-pairs d i e j) ∙ both-pairs c h (both d e) (both i j))
    ∙ both-pairs b g (both c (both d e)) (both h (both i j)))
    ∙ both-pairs a f (both b (both c (both d e))) (both g (both h (both i j))))

pub both-swap : (f a e : Bool) → both f (both a e) ≡ both a (both f e)
both-swap true a e = refl
both-swap false true e = refl
both-swap false false e = refl

pub leb_same : (a b c d : ℕ) → (a ≤ b → c ≤ d) → (c ≤ d → a ≤ b) → leb a b ≡ leb c d
leb_same a b c d f g = step (leb a b) (leb c d) refl refl
  where
    step : (s t : Bool) → leb a b ≡ s → leb c d ≡ t → s ≡ t
    step true true p q = refl
    step false false p q = refl
    step true false p q =
        let more : c ≤ d = f (leb-true a b p) in
        let less : d < c = leb-false c d q in
        absurd (omega arith)
    step false true p q =
        let more : a ≤ b = g (leb-true c d q) in
        let less : b < a = leb-false a b p in
        absurd (omega arith)

-- ---- counts and lists

-- a list has the entries of all where it has the first one's, and what is left has the others'
has_split : (row : List ℕ) (rows : List (List ℕ)) (at stride : ℕ) (list : List ℕ)
    → Halves (has (row ∷ rows) at stride list) (leb (get_or row at 0 * stride) (length list)) (has rows at stride (drop (get_or row at 0 * stride) list))
has_split row rows at stride list = record { is = step (leb here (length list)) refl }
  where
    here : ℕ
    here = get_or row at 0 * stride

    others : ℕ
    others = sum_by (λ r. get_or r at 0) rows * stride

    all : sum_by (λ r. get_or r at 0) (row ∷ rows) * stride ≡ here + others
    all = rw (sum_by-cons (λ (r : List ℕ). get_or r at 0) row rows) (add-mul _ _ _)

    step : (t : Bool) → leb here (length list) ≡ t
        → leb (sum_by (λ r. get_or r at 0) (row ∷ rows) * stride) (length list) ≡ both t (leb others (length (drop here list)))
    step true p =
        let room : here ≤ length list = leb-true _ _ p in
        rw (all, length-drop) (leb_same _ _ _ _ (λ e. omega arith) (λ e. omega arith))
    step false p =
        let short : length list < here = leb-false _ _ p in
        rw all (lt-leb _ _ (omega arith))

pub fits-lists-split : (row : List ℕ) (rows : List (List ℕ)) (l : Lists)
    → fits_lists (row ∷ rows) l ≡ both (fits_row row l) (fits_lists rows (past row l))
unfolding fits_lists fits_row past
fits-lists-split row rows l =
    five-pairs
    (has_split row rows labels_at label_row l.labels)
    (has_split row rows pools_at pool_row l.pools)
    (has_split row rows jump_tables_at jump_table_row l.jump_tables)
    (has_split row rows inline_tables_at inline_table_row l.inline_tables)
    (has_split row rows calls_at call_row l.calls)

-- ---- a function off the front

pub sound-short : (row : List ℕ) (rows : List (List ℕ)) (l : Lists) → fits_row row l ≡ false → entries_sound (row ∷ rows) l ≡ false
unfolding entries_sound
sound-short row rows l e = rw (fits-lists-split row rows l, e)

pub sound-unordered : (row : List ℕ) (rows : List (List ℕ)) (l : Lists) → entries_rise (function_in row l) ≡ false → entries_sound (row ∷ rows) l ≡ false
unfolding entries_sound functions_in
sound-unordered row rows l e = rw e (both-false (fits_lists (row ∷ rows) l))

pub sound-more : (row : List ℕ) (rows : List (List ℕ)) (l : Lists) → fits_row row l ≡ true → entries_rise (function_in row l) ≡ true
    → entries_sound (row ∷ rows) l ≡ entries_sound rows (past row l)
unfolding entries_sound functions_in
sound-more row rows l f e = rw (fits-lists-split row rows l, f, e)

pub sound_none : (l : Lists) → entries_sound [] l ≡ true
unfolding entries_sound fits_lists functions_in
sound_none l =
    rw (le-leb 0 (length l.labels) zero-le, le-leb 0 (length l.pools) zero-le, le-leb 0 (length l.jump_tables) zero-le)
    (rw (le-leb 0 (length l.inline_tables) zero-le, le-leb 0 (length l.calls) zero-le))

abbrev lists : List ℕ → List ℕ → List ℕ → List ℕ → List ℕ → Lists
lists a b c d e = record { labels = a; pools = b; jump_tables = c; inline_tables = d; calls = e }

-- ---- a function's entries, cut off the front of the lists

lists_of_five : (a b c d e f g h i j : List ℕ) → a ≡ f → b ≡ g → c ≡ h → d ≡ i → e ≡ j
    → lists a b c d e ≡ lists f g h i j
lists_of_five a b c d e f g h i j p q r s t = rw (p, q, r, s, t)

pub lists_same : {a b : Lists} → a.labels ≡ b.labels → a.pools ≡ b.pools → a.jump_tables ≡ b.jump_tables → a.inline_tables ≡ b.inline_tables
    → a.calls ≡ b.calls → a ≡ b
lists_same p q r s t = lists_of_five _ _ _ _ _ _ _ _ _ _ p q r s t

module _ {row : List ℕ} {l own others : Lists} (cut : Split row l own others) where
  pub split-fits : fits_row row l ≡ true
  unfolding fits_row
  split-fits = rw (le-leb _ _ cut.labels.fits, le-leb _ _ cut.pools.fits, le-leb _ _ cut.jump_tables.fits, le-leb _ _ cut.inline_tables.fits, le-leb _ _ cut.calls.fits)

  pub split-past : others ≡ past row l
  unfolding past
  split-past = lists_same cut.labels.rest cut.pools.rest cut.jump_tables.rest cut.inline_tables.rest cut.calls.rest

-- the rows of what is cut off a list are its first rows
pub map_in-front : (k n : ℕ) (list : List ℕ) → map_in k n (take (n * k) list) ≡ map_in k n list
unfolding map_in
map_in-front k zero list = refl
map_in-front k (suc n) list =
    let e : suc n * k ≡ k + n * k = omega (arith, suc-mul n k) in
    let low : k ≤ k + n * k = omega arith in
    rw (e, take-take k (k + n * k) list low, drop-take k (n * k) list, map_in-front k n (drop k list))

pub rows-in-cut : {k : ℕ} (n : ℕ) {list front back : List ℕ} → 0 < k → Cut (n * k) list front back → rows_in k front ≡ map_in k n list
rows-in-cut {k} n {list} {front} some cut =
    let long : length front / k ≡ n = ap (λ (m : ℕ). m / k) (ap length cut.first ∙ length-take-le _ _ cut.fits) ∙ mul-div_cancel n some in
    rw (long, cut.first) (map_in-front k n list)

-- flags leave the address
key-flagged : (n : ℕ) (row : List ℕ) → key_of (flagged (suc n) row) ≡ key_of row
unfolding flagged
key-flagged n [] = refl
key-flagged n (x ∷ row) = refl

pub rises-flagged : (n : ℕ) (rows : List (List ℕ)) → map key_of (map (flagged (suc n)) rows) ≡ map key_of rows
rises-flagged n [] = refl
rises-flagged n (row ∷ rows) = rw (key-flagged n row, rises-flagged n rows)

-- the entries ascend in the lists where they do in the function
pub lists-rise-own : {row : List ℕ} {l own others : Lists} → Split row l own others → lists_rise own ≡ entries_rise (function_in row l)
unfolding lists_rise function_in
lists-rise-own {row} {l} cut =
    rw (rows-in-cut _ (omega arith) cut.labels, rows-in-cut _ (omega arith) cut.pools, rows-in-cut _ (omega arith) cut.jump_tables)
    (rw (rows-in-cut _ (omega arith) cut.inline_tables, rows-in-cut _ (omega arith) cut.calls, rises-flagged 1, rises-flagged 2))

-- first instructions stand in the rows
pub first_instructions : (rows : List (List ℕ)) (l : Lists) → map (λ f. f.first_instruction) (functions_in rows l) ≡ map first_of rows
unfolding functions_in function_in
first_instructions [] l = refl
first_instructions (row ∷ rows) l = ap (λ (xs : List ℕ). first_of row ∷ xs) (first_instructions rows (past row l))

-- ---- a whole table

pub sound_is : (count : ℕ) (functions : List ℕ) (l : Lists) → count * function_row ≤ length functions
    → is_sound count functions l ≡ both (ascending (map first_of (map_in function_row count functions))) (entries_sound (map_in function_row count functions) l)
unfolding is_sound is_ascending entries_sound
sound_is count functions l room =
    rw (le-leb _ _ room, first_instructions (map_in function_row count functions) l)
    (both-swap (fits_lists (map_in function_row count functions) l) (ascending (map first_of (map_in function_row count functions))) _)

pub sound_none-of : (count : ℕ) (functions : List ℕ) (l : Lists) → leb (count * function_row) (length functions) ≡ false → is_sound count functions l ≡ false
unfolding is_sound
sound_none-of count functions l e = rw e
