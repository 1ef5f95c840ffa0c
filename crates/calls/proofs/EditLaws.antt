-- What a change leaves of the records: turn by turn, the insert, and zeros.
-- Assumes nothing.
use Rattle.base.proofs.Prelude.{◌∙◌, sym, refl, ◌≡◌, ap, false, true, Bool, List, [], ◌∷◌, ◌++◌, map, ◌≤◌, ℕ, ◌+◌, ◌<◌, suc, ◌*◌, zero, zero-le}
use Rattle.base.proofs.Prelude.{arith, le_of_suc-le-suc, not-suc-le-zero, add-one, eqb, ltb, leb, length, get_or, drop, take, replicate, set}
use Rattle.base.proofs.Prelude.{length-append, take-append-drop, drop-cons, length-take-le, drop_at, take_at, le-leb, lt-leb, leb-true, leb-false}
use Rattle.std.specs.Prelude.{min}
use lib.ListN.{length-map}
use Rattle.std.specs.Prelude.{Result, Ok, Err}
use Rattle.base.specs.declared.refusal.Refusal.{Refusal}
use Rattle.base.specs.declared.refusal.Refusal.TheVariants.{ListFull}
use Rattle.base.specs.Choice.{pick}
use Rattle.context.specs.Context.{call_row}
use Rattle.rows.specs.Order.{ascending, zeros}
use Rattle.rows.specs.Rows.{rank, stands, inserted}
use Rattle.rows.specs.Map.{key_of, flat, map_in, Held, Entering}
use Rattle.base.proofs.ChoiceLaws.{both_first, both-second}
use Rattle.rows.proofs.RowLaws.{stands-within, inserted-length, ascending-kept}
use Rattle.rows.proofs.MapLaws.{held-in-order, in-order-held}
use Rattle.calls.specs.declared.Call.{Call}
use Rattle.calls.specs.declared.told.Edit.{Edit}
use Rattle.calls.specs.declared.told.Told.{Told}
use Rattle.calls.specs.Records.{row_of, numbers_of, rows_in, is_none, rewritten, edited, none, Tells}
use Rattle.calls.proofs.RecordLaws.{follows, order_is, first-rows, numbers-length, map-take, map-drop, zeros-more}

-- ---- turn by turn

pub rewritten-end : (moves : Bool) (call : Call) (i e : ℕ) (cs : List Call) → e ≤ i → rewritten moves call i e cs ≡ cs
unfolding rewritten
rewritten-end moves call i e [] h = refl
rewritten-end moves call i zero (c ∷ cs) h = refl
rewritten-end moves call zero (suc e) (c ∷ cs) h = absurd (not-suc-le-zero h)
rewritten-end moves call (suc i) (suc e) (c ∷ cs) h = ap (λ r. c ∷ r) (rewritten-end moves call i e cs (le_of_suc-le-suc h))

pub rewritten-none : (moves : Bool) (call : Call) (i : ℕ) (cs : List Call) → rewritten moves call i 0 cs ≡ cs
rewritten-none moves call i cs = rewritten-end moves call i 0 cs zero-le

-- there is nothing past the last record
pub rewritten-past : (moves : Bool) (call : Call) (i e : ℕ) (cs : List Call) → length cs ≤ e → rewritten moves call i (length cs) cs ≡ rewritten moves call i e cs
unfolding rewritten
rewritten-past moves call i e [] h = refl
rewritten-past moves call i zero (c ∷ cs) h = absurd (not-suc-le-zero h)
rewritten-past moves call zero (suc e) (c ∷ cs) h = ap (λ r. call ∷ r) (rewritten-past moves (pick moves c call) 0 e cs (le_of_suc-le-suc h))
rewritten-past moves call (suc i) (suc e) (c ∷ cs) h = ap (λ r. c ∷ r) (rewritten-past moves call i e cs (le_of_suc-le-suc h))

-- the record at place i is written, and the rest is left to do
pub rewritten-turn : (moves : Bool) (call : Call) (i e : ℕ) (cs : List Call) → i < e → i < length cs
    → rewritten moves call i e cs ≡ rewritten moves (pick moves (get_or cs i none) call) (suc i) e (set cs i call)
unfolding rewritten
rewritten-turn moves call i e [] h l = absurd (not-suc-le-zero l)
rewritten-turn moves call i zero (c ∷ cs) h l = absurd (not-suc-le-zero h)
rewritten-turn moves call zero (suc e) (c ∷ cs) h l = refl
rewritten-turn moves call (suc i) (suc e) (c ∷ cs) h l =
    ap (λ r. c ∷ r) (rewritten-turn moves call i e cs (le_of_suc-le-suc h) (le_of_suc-le-suc l))

-- the end that the code writes up to
pub rewritten-least : (moves : Bool) (call : Call) (from end : ℕ) (calls : List Call) {k : ℕ} → k ≡ min end (length calls)
    → rewritten moves call from k calls ≡ rewritten moves call from end calls
rewritten-least moves call from end calls {k} e = step (leb (length calls) end) refl
  where
    step : (b : Bool) → leb (length calls) end ≡ b → rewritten moves call from k calls ≡ rewritten moves call from end calls
    step true q =
        let past = leb-true (length calls) end q in
        let same : k ≡ length calls = omega arith in
        rw same (rewritten-past moves call from end calls past)
    step false q =
        let less = leb-false (length calls) end q in
        let same : k ≡ end = omega arith in
        rw same

-- the same, by what the turn found of `moves`
pub rewritten-back : {moves b : Bool} → moves ≡ b → (call : Call) (i e : ℕ) (cs : List Call) → i < e → i < length cs
    → rewritten moves (pick b (get_or cs i none) call) (i + 1) e (set cs i call) ≡ rewritten moves call i e cs
rewritten-back {moves} q call i e cs h l = rw (← q, add-one) (sym (rewritten-turn moves call i e cs h l))

rewritten-length : (moves : Bool) (call : Call) (i e : ℕ) (cs : List Call) → length (rewritten moves call i e cs) ≡ length cs
unfolding rewritten
rewritten-length moves call i e [] = refl
rewritten-length moves call i zero (c ∷ cs) = refl
rewritten-length moves call zero (suc e) (c ∷ cs) = ap suc (rewritten-length moves (pick moves c call) 0 e cs)
rewritten-length moves call (suc i) (suc e) (c ∷ cs) = ap suc (rewritten-length moves call i e cs)

-- no change makes the list longer or shorter
pub numbers-kept : (e : Edit) (cs : List Call) → length (numbers_of (edited e cs)) ≡ length (numbers_of cs)
numbers-kept e cs = rw (numbers-length (edited e cs), numbers-length cs, rewritten-length e.moves e.call e.from e.end cs)

-- ---- the insert

-- the records from the first on move up by one, into place k
moved_up : (b : Call) (k : ℕ) (cs : List Call) → k < length cs → rewritten true b 0 (suc k) cs ≡ b ∷ take k cs ++ drop (suc k) cs
unfolding rewritten
moved_up b k [] l = absurd (not-suc-le-zero l)
moved_up b zero (c ∷ cs) l = ap (λ r. b ∷ r) (rewritten-none true c 0 cs)
moved_up b (suc k) (c ∷ cs) l = ap (λ r. b ∷ r) (moved_up c k cs (le_of_suc-le-suc l))

map-append : (xs ys : List Call) → map row_of (xs ++ ys) ≡ map row_of xs ++ map row_of ys
map-append [] ys = refl
map-append (x ∷ xs) ys = ap (λ r. row_of x ∷ r) (map-append xs ys)

-- the row in its place, and the records behind the calls as they were
abbrev Inserts : Call → ℕ → List Call → Bool → ℕ → Type 0
Inserts a n cs held r =
    pick held r n < length cs
    → map row_of (rewritten true a r (suc (pick held r n)) cs) ≡ inserted key_of (row_of a) (rows_in n cs) ++ map row_of (drop (pick held n (suc n)) cs)

inserts : (a : Call) (n : ℕ) (cs : List Call) → n ≤ length cs
    → Inserts a n cs (stands key_of a.address (rows_in n cs)) (rank key_of a.address (rows_in n cs))
unfolding rewritten rank stands inserted
inserts a zero [] h l = absurd (not-suc-le-zero l)
inserts a zero (c ∷ cs) h l = ap (λ r. row_of a ∷ map row_of r) (rewritten-none true c 0 cs)
inserts a (suc n) [] h l = absurd (not-suc-le-zero h)
inserts a (suc n) (b ∷ bs) h l =
    step (ltb b.address a.address) (eqb b.address a.address) (stands key_of a.address (rows_in n bs)) (rank key_of a.address (rows_in n bs))
    (inserts a n bs (le_of_suc-le-suc h))
    l
  where
    -- behind the calls up to n, whether the records up to there stay or move
    parted : (m : ℕ) → map row_of (take n bs ++ drop m bs) ≡ rows_in n bs ++ map row_of (drop m bs)
    parted m = map-append (take n bs) (drop m bs) ∙ ap (λ r. r ++ map row_of (drop m bs)) (map-take n bs)

    step : (t e s : Bool) (r : ℕ) → Inserts a n bs s r → pick (pick t s e) (pick t (suc r) 0) (suc n) < suc (length bs)
        → map row_of (rewritten true a (pick t (suc r) 0) (suc (pick (pick t s e) (pick t (suc r) 0) (suc n))) (b ∷ bs))
        ≡ pick t (row_of b ∷ inserted key_of (row_of a) (rows_in n bs)) (pick e (row_of a ∷ rows_in n bs) (row_of a ∷ row_of b ∷ rows_in n bs))
        ++ map row_of (drop (pick (pick t s e) (suc n) (suc (suc n))) (b ∷ bs))
    step true e true r more k = ap (λ m. row_of b ∷ m) (more (le_of_suc-le-suc k))
    step true e false r more k = ap (λ m. row_of b ∷ m) (more (le_of_suc-le-suc k))
    step false true s r more k =
        ap (λ m. row_of a ∷ m) (ap (map row_of) (rewritten-none true b 0 bs ∙ sym (take-append-drop n bs)) ∙ parted n)
    step false false s r more k =
        ap (λ m. row_of a ∷ m) (ap (map row_of) (moved_up b n bs (le_of_suc-le-suc k)) ∙ ap (λ m. row_of b ∷ m) (parted (suc n)))

-- ---- zeros

pub cleared : (cs : List Call) → numbers_of (rewritten false none 0 (length cs) cs) ≡ replicate (length (numbers_of cs)) 0
unfolding rewritten flat
cleared [] = refl
cleared (c ∷ cs) = ap (λ r. 0 ∷ 0 ∷ 0 ∷ 0 ∷ r) (cleared cs)

-- ---- what entering a call comes to

-- a list that holds a map has room for its count, and the map is the first rows
pub map_is : (calls : List Call) {n : ℕ} → Held call_row n (numbers_of calls) → (n ≤ length calls) × (map_in call_row n (numbers_of calls) ≡ rows_in n calls)
map_is calls {n} h =
    let many : n ≤ length calls = leb-true n (length calls) (both_first _ _ (sym (order_is n calls) ∙ held-in-order h)) in
    (many, first-rows n calls many ∙ map-take n calls)

module _ (calls : List Call) (call : Call) {n : ℕ} (h : Held call_row n (numbers_of calls)) where
  abbrev m : List (List ℕ)
  m = rows_in n calls

  abbrev held : Bool
  held = stands key_of call.address m

  abbrev at : ℕ
  at = rank key_of call.address m

  abbrev count : ℕ
  count = pick held n (suc n)

  abbrev after : List Call
  after = rewritten true call at (suc (pick held at n)) calls

  many : n ≤ length calls
  many = (map_is calls h).0

  is-map : map_in call_row n (numbers_of calls) ≡ m
  is-map = (map_is calls h).1

  long : length m ≡ n
  long = length-take-le n (map row_of calls) (rw (length-map calls row_of) many)

  grown : length (inserted key_of (row_of call) m) ≡ count
  grown = inserted-length key_of (row_of call) m ∙ rw long

  sorted : follows n calls ≡ true
  sorted = both-second (leb n (length calls)) _ (sym (order_is n calls) ∙ held-in-order h)

  ascends : ascending (map key_of m) ≡ true
  ascends = ap (λ r. ascending (map key_of r)) (sym (map-take n calls)) ∙ both_first _ _ sorted

  -- zeros behind the count, and behind one more
  behind : (b : Bool) → pick b at n < length calls → zeros (numbers_of (drop (pick b n (suc n)) calls)) ≡ true
  behind true l = both-second (ascending (map key_of (map row_of (take n calls)))) _ sorted
  behind false l =
      both-second (is_none (get_or calls n none)) _
      (sym (zeros-more (get_or calls n none) (drop (suc n) calls))
      ∙ ap (λ r. zeros (numbers_of r)) (sym (drop-cons calls n none l))
      ∙ both-second (ascending (map key_of (map row_of (take n calls)))) _ sorted)

  pub enters-not : length calls ≤ pick held at n → Entering call_row n (numbers_of calls) (row_of call) (Err ListFull) (numbers_of calls)
  enters-not full = record { held = h; says = rw (is-map, grown, numbers-length calls) (step held refl full); leaves = refl }
    where
      step : (b : Bool) → held ≡ b → length calls ≤ pick b at n → ◌≡◌ {A = Result ℕ Refusal} (Err ListFull) (pick (leb (pick b n (suc n) * call_row) (length calls * call_row)) (Ok n) (Err ListFull))
      step true s l = absurd (omega (arith, stands-within key_of call.address m s, long, many, l))
      step false s l = rw (lt-leb (suc n * call_row) (length calls * call_row) (omega (arith, l)))

  pub enters : pick held at n < length calls
      → Entering call_row n (numbers_of calls) (row_of call) (Ok count) (numbers_of after)
  enters room =
      let rows : map row_of after ≡ inserted key_of (row_of call) m ++ map row_of (drop count calls) = inserts call n calls many room in
      let fresh : rows_in count after ≡ inserted key_of (row_of call) m = rw rows (take_at (inserted key_of (row_of call) m) _ count grown) in
      let rest : map row_of (drop count after) ≡ map row_of (drop count calls) =
      sym (map-drop count after) ∙ rw rows (drop_at (inserted key_of (row_of call) m) _ count grown) in
      let size : length (map row_of after) ≡ length (inserted key_of (row_of call) m) + length (map row_of (drop count calls)) =
      (simp length-append at (ap length rows)) in
      let within : count ≤ length after = omega (arith, size, grown, length-map after row_of) in
      let rises : ascending (map key_of (rows_in count after)) ≡ true = rw fresh (ascending-kept key_of (row_of call) m ascends) in
      record {
        held = in-order-held (omega arith) (order_is count after ∙ rw (map-take count after, le-leb count (length after) within, rises, rest) (behind held room));
        says = rw (is-map, grown, numbers-length calls, le-leb (count * call_row) (length calls * call_row) (omega (arith, within, rewritten-length true call at (suc (pick held at n)) calls)));
        leaves = first-rows count after within ∙ map-take count after ∙ fresh ∙ ap (inserted key_of (row_of call)) (sym is-map);
      }

-- ---- the same, as the code meets it

module _ (t : Told) (call : Call) (calls : List Call) (n : ℕ) (w : Tells calls n call.address t) (h : Held call_row n (numbers_of calls))
    {last : ℕ} (e : last ≡ pick t.is_held t.at t.count) where
  last-is : last ≡ pick (held calls call h) (at calls call h) n
  last-is = e ∙ rw (w.held, w.place, w.counts)

  pub full_is : t.places ≤ last → Entering call_row n (numbers_of calls) (row_of call) (Err ListFull) (numbers_of calls)
  full_is l = enters-not calls call h (omega (arith, last-is, w.places, l))

  pub room-is : last < t.places
      → Entering call_row n (numbers_of calls) (row_of call) (Ok (pick t.is_held t.count (last + 1))) (numbers_of (rewritten true call t.at (last + 1) calls))
  room-is l =
      rw (add-one, w.counts, w.place, w.held, last-is, same (held calls call h)) (enters calls call h (omega (arith, last-is, w.places, l)))
    where
      same : (b : Bool) → pick b n (suc (pick b (at calls call h) n)) ≡ pick b n (suc n)
      same true = refl
      same false = refl
