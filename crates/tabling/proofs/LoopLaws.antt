-- The starts that are taken so far: the table that they leave, and their lines.
-- Assumes nothing.
use Rattle.base.proofs.Prelude.{◌∙◌, sym, refl, ◌≡◌, ap, true, List, [], ◌∷◌, ◌++◌, map, append_assoc, append-nil, ◌≤◌, ℕ, ◌+◌, ◌-◌, ◌*◌, ◌<◌, suc, zero, arith, add-one}
use Rattle.base.proofs.Prelude.{length, get_or, drop, drop-cons, drop_of_length-le, le-leb, zero-le, not-suc-le-zero, le_of_suc-le-suc, ltb, ltb-true}
use Rattle.base.proofs.ChoiceLaws.{both_first, both-second}
use Rattle.context.specs.Lists.{Lists, lists, places_of}
use Rattle.module_request.specs.ModuleRequest.{start_of}
use Rattle.rows.specs.Map.{map_in}
use Rattle.rows.specs.Order.{rising, ascending}
use Rattle.table.specs.Table.{Function, is_ascending}
use Rattle.table.specs.Held.{function_row, functions_in, fits_lists, is_sound}
use Rattle.text.specs.Writers.{Wrote}
use Rattle.text.specs.declared.writer.Writer.{Writer}
use Rattle.text.proofs.Writers.{wrote_none, wrote_then}
use Rattle.walk.specs.declared.Counts.{Counts}
use Rattle.walk.specs.declared.Options.{Options}
use Rattle.append.specs.Append.{Lent, table_of, rows_of, is_above, last_of, IsSame}
use Rattle.append.specs.declared.TableMut.{TableMut}
use Rattle.tabling.specs.Tabling.{places, left, Found, found_at, found_from}
use Rattle.tabling.specs.Taking.{rows_for, line_room, Has, Lends, Kept, Readied, Took}

-- ---- before the first

no-rows : (t : Lent) → t.count ≡ 0 → rows_of t ≡ []
unfolding map_in
no-rows t e = ap (λ (n : ℕ). map_in function_row n t.functions) e

no-table : (t : Lent) → t.count ≡ 0 → table_of t ≡ []
unfolding functions_in
no-table t e = ap (λ (rs : List (List ℕ)). functions_in rs t.lists) (no-rows t e)

none-sound : (t : Lent) → is_sound 0 t.functions t.lists ≡ true
unfolding is_sound fits_lists is_ascending functions_in map_in ascending
none-sound t =
    rw (
      le-leb 0 (length t.functions) zero-le,
      le-leb 0 (length t.lists.labels) zero-le,
      le-leb 0 (length t.lists.pools) zero-le,
      le-leb 0 (length t.lists.jump_tables) zero-le,
      le-leb 0 (length t.lists.inline_tables) zero-le,
      le-leb 0 (length t.lists.calls) zero-le,
    )

none-kept : (t : Lent) → t.count ≡ 0 → Lends t → Kept t places
unfolding left
none-kept t e lends = record {
  lends = lends;
  sound = ap (λ (n : ℕ). is_sound n t.functions t.lists) e ∙ none-sound t;
  left = rw (no-table t e);
}

-- ---- starts that ascend

risen : (x : ℕ) (xs : List ℕ) (i : ℕ) → rising x xs ≡ true → i < length xs → get_or (x ∷ xs) i 0 < get_or xs i 0
unfolding rising
risen x [] i e h = absurd (not-suc-le-zero h)
risen x (y ∷ ys) zero e h = ltb-true x y (both_first (ltb x y) (rising y ys) e)
risen x (y ∷ ys) (suc i) e h = risen y ys i (rising-past x y ys e) (le_of_suc-le-suc h)
  where
    rising-past : (x y : ℕ) (ys : List ℕ) → rising x (y ∷ ys) ≡ true → rising y ys ≡ true
    rising-past x y ys e = both-second (ltb x y) (rising y ys) e

neighbours : (xs : List ℕ) (i : ℕ) → ascending xs ≡ true → suc i < length xs → get_or xs i 0 < get_or xs (suc i) 0
unfolding ascending
neighbours [] i e h = absurd (not-suc-le-zero h)
neighbours (x ∷ xs) i e h = risen x xs i e (le_of_suc-le-suc h)

-- ---- the loop

module _ (o : Options) (code starts : List ℕ) (first : Lent) (start : Writer) where
  abbrev all : Found
  all = found_from o code starts []

  abbrev rest : ℕ → List Function → Found
  rest i table = found_from o code (drop i starts) table

  -- so many starts are taken
  pub record Taken (i : ℕ) (t : Lent) (n : Counts) (w : Writer) : Type 0 where
    pub kept : Kept t n
    pub functions : length t.functions ≡ length first.functions
    pub count : t.count ≤ i
    pub next : (s : ℕ) → (0 < i → get_or starts (i - 1) 0 < s) → is_above s (last_of (rows_of t)) ≡ true
    pub table : (rest i (table_of t)).table ≡ all.table
    pub text : List ℕ
    pub wrote : Wrote start w text
    pub lines : text ++ (rest i (table_of t)).lines ≡ all.lines
    pub at : w.at ≤ start.at + i * line_room

  pub taken-none : first.count ≡ 0 → Lends first → Taken 0 first places start
  taken-none none lends = record {
    kept = none-kept first none lends;
    functions = refl;
    count = omega (arith, none);
    next = λ s h. rw (no-rows first none);
    table = ap (λ (t : List Function). (found_from o code starts t).table) (no-table first none);
    text = [];
    wrote = wrote_none start;
    lines = ap (λ (t : List Function). (found_from o code starts t).lines) (no-table first none);
    at = omega arith;
  }

  module _ (i : ℕ) (t : Lent) (n : Counts) (w : Writer) (taken : Taken i t n w) where
    abbrev here : ℕ
    here = get_or starts i 0

    pub taken-has : (l k : Lists) → places_of l ≡ rows_for places → places_of k ≡ places_of l → Has n k
    unfolding left
    taken-has l k p q =
        let labels = ap (λ (x : Counts). x.labels) taken.kept.left in
        let pools = ap (λ (x : Counts). x.pools) taken.kept.left in
        let jumps = ap (λ (x : Counts). x.jump_tables) taken.kept.left in
        let inlines = ap (λ (x : Counts). x.inline_tables) taken.kept.left in
        let calls = ap (λ (x : Counts). x.calls) taken.kept.left in
        let r = q ∙ p in
        let l1 = ap (λ (x : Counts). x.labels) r in
        let l2 = ap (λ (x : Counts). x.pools) r in
        let l3 = ap (λ (x : Counts). x.jump_tables) r in
        let l4 = ap (λ (x : Counts). x.inline_tables) r in
        let l5 = ap (λ (x : Counts). x.calls) r in
        record {
          labels = omega (arith, labels, l1);
          pools = omega (arith, pools, l2);
          jump_tables = omega (arith, jumps, l3);
          inline_tables = omega (arith, inlines, l4);
          calls = omega (arith, calls, l5);
        }

    pub taken-ready : i < length starts → length starts * function_row ≤ length first.functions → ascending starts ≡ true → Readied t n here
    taken-ready more rows ascend = record {
      kept = taken.kept;
      row = omega (arith, taken.count, taken.functions, rows, more);
      next = taken.next here (before i more);
    }
      where
        before : (i : ℕ) → i < length starts → 0 < i → get_or starts (i - 1) 0 < get_or starts i 0
        before zero more h = absurd (not-suc-le-zero h)
        before (suc i) more h = let e : suc i - 1 ≡ i = omega arith in rw e (neighbours starts i ascend more)

    split : i < length starts → rest i (table_of t) ≡ (let one = found_at o code here (table_of t) in record { table = (rest (i + 1) one.table).table; lines = one.lines ++ (rest (i + 1) one.table).lines })
    unfolding found_from
    split more = rw (drop-cons starts i 0 more, add-one i)

    pub taken-more : i < length starts → (u : Lent) (k : Counts) (v : Writer) → Took o code here t u k
        → Wrote w v (found_at o code here (table_of t)).lines → v.at ≤ w.at + line_room → Taken (i + 1) u k v
    taken-more more u k v took wrote at =
        let apart = split more in
        record {
          kept = took.kept;
          functions = took.functions ∙ taken.functions;
          count = omega (arith, took.count, taken.count);
          next = λ s h. took.next s (let e : i + 1 - 1 ≡ i = omega arith in rw e at (h (omega arith)));
          table = rw took.table (ap (λ (f : Found). f.table) (sym apart) ∙ taken.table);
          text = taken.text ++ (found_at o code here (table_of t)).lines;
          wrote = wrote_then taken.wrote wrote;
          lines = rw (took.table, append_assoc taken.text) (ap (λ (f : Found). taken.text ++ f.lines) (sym apart) ∙ taken.lines);
          at = omega (arith, at, taken.at);
        }

    ended : length starts ≤ i → rest i (table_of t) ≡ record { table = table_of t; lines = [] }
    unfolding found_from
    ended done = rw (drop_of_length-le starts done)

    pub taken-table : length starts ≤ i → table_of t ≡ all.table
    taken-table done = ap (λ (f : Found). f.table) (sym (ended done)) ∙ taken.table

    pub taken-lines : length starts ≤ i → Wrote start w all.lines
    taken-lines done =
        let same : taken.text ≡ all.lines = sym (append-nil taken.text) ∙ ap (λ (f : Found). taken.text ++ f.lines) (sym (ended done)) ∙ taken.lines in
        rw (← same) taken.wrote

-- ---- the five lists, and a start of the list

pub same-places : (a b c d e v w x y z : List ℕ) → length a ≡ length v → length b ≡ length w → length c ≡ length x → length d ≡ length y → length e ≡ length z
    → places_of (lists a b c d e) ≡ places_of (lists v w x y z)
same-places a b c d e v w x y z p q r s t = cc

pub same-then : {a b c : TableMut} → IsSame a b → IsSame b c → IsSame a c
same-then p q = record {
  functions = q.functions ∙ p.functions;
  labels = q.labels ∙ p.labels;
  pools = q.pools ∙ p.pools;
  jump_tables = q.jump_tables ∙ p.jump_tables;
  inline_tables = q.inline_tables ∙ p.inline_tables;
  calls = q.calls ∙ p.calls;
}

pub start-at : (starts : List (List ℕ)) (i : ℕ) (d : List ℕ) → i < length starts → start_of (get_or starts i d) ≡ get_or (map start_of starts) i 0
start-at [] i d h = absurd (not-suc-le-zero h)
start-at (s ∷ ss) zero d h = refl
start-at (s ∷ ss) (suc i) d h = start-at ss i d (le_of_suc-le-suc h)
