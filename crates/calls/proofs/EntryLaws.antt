-- A call entered in a list of records: where the search found its place, and what the code makes of the list.
-- Assumes nothing.
use Rattle.base.proofs.Prelude.{◌∙◌, sym, refl, ◌≡◌, ap, false, true, Bool, List, [], ◌∷◌, ◌++◌, map, ◌≤◌, ℕ, ◌+◌, ◌<◌, ◌-◌, suc, ◌*◌, zero, zero-le, suc-le-suc}
use Rattle.base.proofs.Prelude.{arith, le_of_suc-le-suc, not-suc-le-zero, add-one, eqb, ltb, leb, length, get_or, drop, take, set}
use Rattle.base.proofs.Prelude.{length-append, length-set, take-append-drop, drop-cons, length-take-le, drop_at, take_at, le-leb, lt-leb, lt-ltb, le-ltb, ltb-true, eq-eqb, ne_eqb}
use native.Mathlib.Nat.{lt_trans}
use lib.ListN.{length-map}
use Rattle.std.specs.Cmp.{nat_cmp_total}
use Rattle.std.specs.List.{copy_within}
use Rattle.std.specs.List.Sorted.{IsNonDecreasingBy, IsPartitionPoint, IsBinarySearchResult, IsSearchInRange}
use Rattle.std.specs.Ordering.{nat_cmp, ordering_index, is_lt}
use Rattle.std.proofs.Common.{Less, Equal, Greater}
use Rattle.std.specs.Prelude.{Result, Ok, Err}
use Rattle.std.proofs.lemmas.Bool.Decides.{nat_tests}
use Rattle.std.proofs.lemmas.List.Sorted.{searchable_from_sorted}
use Rattle.base.specs.declared.refusal.Refusal.TheVariants.{ListFull}
use Rattle.base.specs.Choice.{pick}
use Rattle.base.proofs.ChoiceLaws.{both_first, both-second}
use Rattle.context.specs.Context.{call_row}
use Rattle.rows.specs.Order.{rising, ascending, zeros}
use Rattle.rows.specs.Rows.{rank, stands, inserted}
use Rattle.rows.specs.Map.{key_of, map_in, Held, Entering}
use Rattle.rows.proofs.OrderLaws.{rising-ascending}
use Rattle.rows.proofs.RowLaws.{insert_at, inserted-is, insert_at-length, ascending-kept}
use Rattle.rows.proofs.MapLaws.{held-in-order, in-order-held}
use Rattle.calls.specs.declared.Call.{Call}
use Rattle.calls.specs.Records.{row_of, numbers_of, is_none, none}
use Rattle.calls.proofs.RecordLaws.{follows, numbers-length, first-rows, order_is, order-parts, held-room, held-rows, zeros-more}

abbrev key : Call → ℕ
key c = c.address

-- calls that ascend by address
abbrev Ascend : List Call → Type 0
Ascend cs = ascending (map key_of (map row_of cs)) ≡ true

-- ---- what the search says of the place

tells-less : (a x : ℕ) → nat_cmp a x ≡ Less → a < x
tells-less a x e = grind (arith, nat_tests)

tells-equal : (a x : ℕ) → nat_cmp a x ≡ Equal → a ≡ x
tells-equal a x e = grind (arith, nat_tests)

tells-greater : (a x : ℕ) → nat_cmp a x ≡ Greater → x < a
tells-greater a x e = grind (arith, nat_tests)

not-below : (a x : ℕ) → x < a → is_lt (nat_cmp a x) ≡ false
not-below a x l = grind (arith, nat_tests)

over : (y : ℕ) (cs : List Call) (i : ℕ) (d : Call) → rising y (map key_of (map row_of cs)) ≡ true → i < length cs → y < (get_or cs i d).address
unfolding rising
over y [] i d e l = absurd (not-suc-le-zero l)
over y (c ∷ cs) zero d e l = ltb-true y c.address (both_first _ _ e)
over y (c ∷ cs) (suc i) d e l =
    lt_trans (ltb-true y c.address (both_first (ltb y c.address) _ e)) (over c.address cs i d (both-second (ltb y c.address) _ e) (le_of_suc-le-suc l))

next : (cs : List Call) (k : ℕ) (d : Call) → Ascend cs → k + 1 < length cs → (get_or cs k d).address < (get_or cs (k + 1) d).address
unfolding ascending
next [] k d e l = absurd (omega arith)
next (c ∷ cs) zero d e l = over c.address cs 0 d e (le_of_suc-le-suc l)
next (c ∷ cs) (suc k) d e l = rw add-one (rw add-one at (next cs k d (rising-ascending c.address (map key_of (map row_of cs)) e) (omega arith)))

-- what a search by halves for the address x answers
abbrev pub Searched : List Call → ℕ → Result ℕ ℕ → Type 0
Searched cs x r = IsSearchInRange r (length cs) × IsBinarySearchResult (λ (c : Call). nat_cmp c.address x) cs r

-- the calls are in the order that it asks
searchable : (cs : List Call) (x : ℕ) → Ascend cs → IsNonDecreasingBy (λ (c : Call). ordering_index (nat_cmp c.address x)) cs
searchable cs x e = searchable_from_sorted nat_cmp_total key cs x (λ k d a l. not-below _ _ (next cs k d e l))

-- a call with the address is the only one
found : (cs : List Call) (x i : ℕ) → Ascend cs → Searched cs x (Ok i) → (rank key x cs ≡ i) × (stands key x cs ≡ true)
unfolding ascending rank stands
found [] x i e w = absurd (not-suc-le-zero w.0)
found (c ∷ cs) x zero e w =
    let same : c.address ≡ x = tells-equal _ _ (w.1 none) in
    rw (le-ltb c.address x (omega arith), eq-eqb c.address x same) (refl, refl)
found (c ∷ cs) x (suc i) e w =
    let same : (get_or cs i none).address ≡ x = tells-equal _ _ (w.1 none) in
    let less : c.address < x = omega (arith, over c.address cs i none e (le_of_suc-le-suc w.0)) in
    let more = found cs x i (rising-ascending c.address (map key_of (map row_of cs)) e) (le_of_suc-le-suc w.0, λ d. w.1 d) in
    rw (lt-ltb c.address x less) (ap suc more.0, more.1)

-- a place between the calls below and those above
between : (cs : List Call) (x i : ℕ) → i ≤ length cs
    → IsPartitionPoint (λ (c : Call). nat_cmp c.address x ≡ Less) (λ (c : Call). nat_cmp c.address x ≡ Greater) cs i
    → (rank key x cs ≡ i) × (stands key x cs ≡ false)
unfolding rank stands
between [] x zero l p = (refl, refl)
between [] x (suc i) l p = absurd (not-suc-le-zero l)
between (c ∷ cs) x zero l p =
    let high : x < c.address = tells-greater _ _ (p.1 0 none zero-le (suc-le-suc zero-le)) in
    rw (le-ltb c.address x (omega arith), ne_eqb c.address x (λ e. omega arith)) (refl, refl)
between (c ∷ cs) x (suc i) l p =
    let low : c.address < x = tells-less _ _ (p.0 0 none zero-le (suc-le-suc zero-le)) in
    let before = λ (k : ℕ) (d : Call) (a : 0 ≤ k) (b : k < i). p.0 (suc k) d zero-le (suc-le-suc b) in
    let behind = λ (k : ℕ) (d : Call) (a : i ≤ k) (b : k < length cs). p.1 (suc k) d (suc-le-suc a) (suc-le-suc b) in
    let more = between cs x i (le_of_suc-le-suc l) (before, behind) in
    rw (lt-ltb c.address x low) (ap suc more.0, more.1)

missed : (cs : List Call) (x i : ℕ) → Ascend cs → Searched cs x (Err i) → (rank key x cs ≡ i) × (stands key x cs ≡ false)
missed cs x i e w = between cs x i w.0 (w.1 (searchable cs x e))

-- ---- what the code makes of the list

-- an entry written among the first n
set_front : {A : Type 0} (a : A) (i n : ℕ) (xs : List A) → i < n → n ≤ length xs → set xs i a ≡ set (take n xs) i a ++ drop n xs
set_front a i zero xs l h = absurd (not-suc-le-zero l)
set_front a i (suc n) [] l h = absurd (not-suc-le-zero h)
set_front a zero (suc n) (x ∷ xs) l h = ap (λ r. a ∷ r) (sym (take-append-drop n xs))
set_front a (suc i) (suc n) (x ∷ xs) l h = ap (λ r. x ∷ r) (set_front a i n xs (le_of_suc-le-suc l) (le_of_suc-le-suc h))

-- those from place i on move up by one, and the entry is written there
moved_set : {A : Type 0} (a : A) (i n : ℕ) (xs : List A) → i ≤ n → n < length xs
    → set (copy_within xs i n (i + 1)) i a ≡ insert_at i a (take n xs) ++ drop (suc n) xs
unfolding insert_at
moved_set a i n [] h l = absurd (not-suc-le-zero l)
moved_set a zero n (x ∷ xs) h l =
    let part : n - 0 ≡ n = omega arith in
    let behind : 1 + (n - 0) ≡ suc n = omega arith in
    rw (behind, part)
moved_set a (suc i) zero (x ∷ xs) h l = absurd (not-suc-le-zero h)
moved_set a (suc i) (suc n) (x ∷ xs) h l =
    let place : suc i + 1 ≡ suc (i + 1) = omega arith in
    let part : suc n - suc i ≡ n - i = omega arith in
    let behind : suc i + 1 + (suc n - suc i) ≡ suc (i + 1 + (n - i)) = omega arith in
    rw (behind, place, part) (ap (λ r. x ∷ r) (moved_set a i n xs (le_of_suc-le-suc h) (le_of_suc-le-suc l)))

-- ---- what entering a call comes to

inserted-rows : (a : Call) (cs : List Call) → map row_of (inserted key a cs) ≡ inserted key_of (row_of a) (map row_of cs)
unfolding inserted
inserted-rows a [] = refl
inserted-rows a (c ∷ cs) = step (ltb c.address a.address) (eqb c.address a.address) (inserted-rows a cs)
  where
    step : (s t : Bool) → map row_of (inserted key a cs) ≡ inserted key_of (row_of a) (map row_of cs)
        → map row_of (pick s (c ∷ inserted key a cs) (pick t (a ∷ cs) (a ∷ c ∷ cs)))
        ≡ pick s (row_of c ∷ inserted key_of (row_of a) (map row_of cs)) (pick t (row_of a ∷ map row_of cs) (row_of a ∷ row_of c ∷ map row_of cs))
    step true t e = ap (λ r. row_of c ∷ r) e
    step false true e = refl
    step false false e = refl

module _ (calls : List Call) (call : Call) {n : ℕ} (h : Held call_row n (numbers_of calls)) where
  abbrev front : List Call
  front = take n calls

  abbrev fresh : List Call
  fresh = inserted key call front

  long : length front ≡ n
  long = length-take-le n calls (held-room calls h)

  sorted : follows n calls ≡ true
  sorted = both-second (leb n (length calls)) _ (sym (order_is n calls) ∙ held-in-order h)

  rises : Ascend front
  rises = both_first _ _ sorted

  rest : zeros (numbers_of (drop n calls)) ≡ true
  rest = both-second (ascending (map key_of (map row_of front))) _ sorted

  -- and one place more
  rest-more : n < length calls → zeros (numbers_of (drop (suc n) calls)) ≡ true
  rest-more l =
      both-second (is_none (get_or calls n none)) _
      (sym (zeros-more (get_or calls n none) (drop (suc n) calls)) ∙ ap (λ r. zeros (numbers_of r)) (sym (drop-cons calls n none l)) ∙ rest)

  rows-fresh : map row_of fresh ≡ inserted key_of (row_of call) (map_in call_row n (numbers_of calls))
  rows-fresh = inserted-rows call front ∙ rw (held-rows calls h)

  size : length (inserted key_of (row_of call) (map_in call_row n (numbers_of calls))) ≡ length fresh
  size = ap length (sym rows-fresh) ∙ length-map fresh row_of

  -- the calls with this one, and what stood behind them
  enters : {count : ℕ} {after : List Call} → length fresh ≡ count → count ≤ length calls → zeros (numbers_of (drop count calls)) ≡ true
      → after ≡ fresh ++ drop count calls → Entering call_row n (numbers_of calls) (row_of call) (Ok count) (numbers_of after)
  enters {count} {after} many fits behind e =
      let first : take count after ≡ fresh = rw e (take_at fresh (drop count calls) count many) in
      let others : drop count after ≡ drop count calls = rw e (drop_at fresh (drop count calls) count many) in
      let within : count ≤ length after = rw e (simp length-append (omega arith)) in
      let up : ascending (map key_of (map row_of (take count after))) ≡ true = rw (first, inserted-rows call front) (ascending-kept key_of (row_of call) (map row_of front) rises) in
      record {
        held = in-order-held (omega arith) (sym (order-parts count after within) ∙ rw (up, others) behind);
        says = rw (size, many, numbers-length calls, le-leb (count * call_row) (length calls * call_row) (omega arith));
        leaves = first-rows count after within ∙ ap (map row_of) first ∙ rows-fresh;
      }

  -- where a call with the address stands
  pub replaces : {i : ℕ} → Searched front call.address (Ok i) → Entering call_row n (numbers_of calls) (row_of call) (Ok n) (numbers_of (set calls i call))
  replaces {i} w =
      let place = found front call.address i rises w in
      let is : fresh ≡ set front i call = rw (inserted-is key call front, place.1, place.0) in
      let left = set_front call i n calls (omega (arith, w.0, long)) (held-room calls h) in
      enters (rw (is, length-set front i call) long) (held-room calls h) rest (rw is left)

  module _ {i : ℕ} (w : Searched front call.address (Err i)) where
    is-new : fresh ≡ insert_at i call front
    is-new = let place = missed front call.address i rises w in rw (inserted-is key call front, place.1, place.0)

    more : length fresh ≡ n + 1
    more = rw (is-new, insert_at-length i call front, long) (sym (add-one n))

    -- where there is none, and a place is free
    pub adds : n < length calls → Entering call_row n (numbers_of calls) (row_of call) (Ok (n + 1)) (numbers_of (set (copy_within calls i n (i + 1)) i call))
    adds room =
        let moved = moved_set call i n calls (omega (arith, w.0, long)) room in
        enters more (omega arith) (rw (add-one n) (rest-more room)) (rw (is-new, add-one n) moved)

    -- and where none is
    pub full : n ≡ length calls → Entering call_row n (numbers_of calls) (row_of call) (Err ListFull) (numbers_of calls)
    full none = record {
      held = h;
      says = rw (size, more, numbers-length calls, lt-leb ((n + 1) * call_row) (length calls * call_row) (omega arith));
      leaves = refl;
    }
