-- The laws of an insert: the numbers that it moves and writes are those of the map after it.
-- Assumes nothing.
use Rattle.base.proofs.Prelude.{◌∙◌, sym, refl, ◌≡◌, ap, false, true, Bool, List, [], ◌∷◌, ◌++◌, append_assoc, ◌≤◌, ℕ, ◌+◌, ◌<◌}
use Rattle.base.proofs.Prelude.{◌-◌, suc, ◌*◌, zero, arith, le_of_suc-le-suc, not-suc-le-zero, zero-mul, suc-mul, add-one, leb, length, drop}
use Rattle.base.proofs.Prelude.{take, replicate, length-set, set, length-take-le, take_at, drop_at}
use Rattle.base.proofs.Prelude.{le-leb, lt-leb}
use Rattle.std.specs.List.{copy_within}
use Rattle.std.specs.Prelude.{Result, Ok, Err}
use Rattle.std.proofs.lemmas.List.{drop-take}
use lib.Seq.{slice, paste, take-append-le, drop-append-le, take-append-add, drop-append-add, take-take, take_all}
use Rattle.base.specs.Choice.{pick}
use Rattle.rows.specs.Rows.{padded, rank, stands, inserted}
use Rattle.rows.proofs.RowLaws.{insert_at, insert_at-length, rank-within, stands-within, inserted-is, inserted-length, ascending-kept}
use Rattle.base.specs.declared.refusal.Refusal.{Refusal}
use Rattle.base.specs.declared.refusal.Refusal.TheVariants.{ListFull}
use Rattle.rows.specs.declared.Change.{Change}
use Rattle.rows.specs.declared.Change.TheVariants.{Added, Replaced}
use Rattle.rows.specs.Map.{key_of, Wide, Map, flat, encode, map_in, Held, holds_at, answer, rows_left, fits, Inserted, Entering}
use Rattle.rows.proofs.MapLaws.{row_fits, rows_fit, map-length, flat-length, encode-held, held-map, held-flat}
use Rattle.rows.proofs.SearchLaws.{stands_at}

-- ---- the numbers that move up

-- the numbers in places f to e moved up by n
unfoldable pub opened : List ℕ → ℕ → ℕ → ℕ → List ℕ
opened list f e n = take (f + n) list ++ slice f e list ++ drop (e + n) list

pub moved-up : (l : List ℕ) (f e n : ℕ) → f ≤ e → copy_within l f e (f + n) ≡ opened l f e n
unfolding opened
moved-up l f e n h =
    let part : drop f (take e l) ≡ take (e - f) (drop f l) = (let w : f + (e - f) ≡ e = omega arith in rw w at (drop-take f (e - f) l)) in
    let rest : f + n + (e - f) ≡ e + n = omega arith in
    rw (rest, part)

-- ---- a row among rows, number by number

flat-set : (k p : ℕ) (r : List ℕ) (m : List (List ℕ)) → Wide k m → p < length m
    → flat (set m p r) ≡ (take (p * k) (flat m) ++ r) ++ drop (p * k + k) (flat m)
unfolding flat
flat-set k p r [] w h = absurd (not-suc-le-zero h)
flat-set k zero r (x ∷ xs) w h =
    let e : zero * k + k ≡ k = omega (arith, zero-mul k) in
    rw (e, zero-mul k, drop_at x (flat xs) k w.0)
flat-set k (suc p) r (x ∷ xs) w h =
    let here : length x ≡ k = w.0 in
    let t : suc p * k ≡ length x + p * k = omega (arith, suc-mul p k) in
    let d : suc p * k + k ≡ length x + (p * k + k) = omega (arith, suc-mul p k) in
    rw (d, t, take-append-add x (flat xs) (p * k), drop-append-add x (flat xs) (p * k + k), flat-set k p r xs w.1 (le_of_suc-le-suc h), append_assoc x (take (p * k) (flat xs)) r)
    (sym (append_assoc x (take (p * k) (flat xs) ++ r) (drop (p * k + k) (flat xs))))

flat-insert : (k p : ℕ) (r : List ℕ) (m : List (List ℕ)) → Wide k m → p ≤ length m
    → flat (insert_at p r m) ≡ (take (p * k) (flat m) ++ r) ++ drop (p * k) (flat m)
unfolding flat insert_at
flat-insert k zero r m w h = rw (zero-mul k)
flat-insert k (suc p) r [] w h = absurd (not-suc-le-zero h)
flat-insert k (suc p) r (x ∷ xs) w h =
    let here : length x ≡ k = w.0 in
    let t : suc p * k ≡ length x + p * k = omega (arith, suc-mul p k) in
    rw (t, take-append-add x (flat xs) (p * k), drop-append-add x (flat xs) (p * k), flat-insert k p r xs w.1 (le_of_suc-le-suc h), append_assoc x (take (p * k) (flat xs)) r)
    (sym (append_assoc x (take (p * k) (flat xs) ++ r) (drop (p * k) (flat xs))))

wide-set : (k p : ℕ) (r : List ℕ) (m : List (List ℕ)) → length r ≡ k → Wide k m → Wide k (set m p r)
wide-set k p r [] e w = tt
wide-set k zero r (x ∷ xs) e w = (e, w.1)
wide-set k (suc p) r (x ∷ xs) e w = (w.0, wide-set k p r xs e w.1)

wide-insert : (k p : ℕ) (r : List ℕ) (m : List (List ℕ)) → length r ≡ k → Wide k m → Wide k (insert_at p r m)
unfolding insert_at
wide-insert k zero r m e w = (e, w)
wide-insert k (suc p) r [] e w = (e, tt)
wide-insert k (suc p) r (x ∷ xs) e w = (w.0, wide-insert k p r xs e w.1)

-- ---- the slice after it

drop-zeros : (k n : ℕ) → drop k (replicate {A = ℕ} n 0) ≡ replicate (n - k) 0
drop-zeros zero n = ap (λ (m : ℕ). replicate {A = ℕ} m 0) (let e : n ≡ n - zero = omega arith in e)
drop-zeros (suc k) zero = ap (λ (m : ℕ). replicate {A = ℕ} m 0) (let e : zero ≡ zero - suc k = omega arith in e)
drop-zeros (suc k) (suc n) = drop-zeros k n ∙ ap (λ (m : ℕ). replicate {A = ℕ} m 0) (let e : n - k ≡ suc n - suc k = omega arith in e)

-- a row put for another, of the same width
put-over : (f zs row : List ℕ) (a k : ℕ) → a + k ≤ length f → paste (f ++ zs) a row k ≡ ((take a f ++ take k row) ++ drop (a + k) f) ++ zs
put-over f zs row a k h =
    rw (take-append-le a f zs (omega arith), drop-append-le (a + k) f zs h)
    (sym (append_assoc (take a f ++ take k row) (drop (a + k) f) zs))

-- a row put where the rows from there on have moved up
put-between : (f zs row : List ℕ) (a e k : ℕ) → length f ≡ e → a ≤ e → e + k ≤ length (f ++ zs)
    → paste (opened (f ++ zs) a e k) a row k ≡ ((take a f ++ take k row) ++ drop a f) ++ drop k zs
unfolding opened
put-between f zs row a e k long h fits =
    let l = f ++ zs in
    let front : length (take (a + k) l) ≡ a + k = length-take-le (a + k) l (omega arith) in
    let whole : take e l ≡ f = take_at f zs e long in
    let rest : drop (e + k) l ≡ drop k zs = (rw long at (drop-append-add f zs k)) in
    rw (append_assoc (take (a + k) l) (slice a e l) (drop (e + k) l), take-append-le a (take (a + k) l) (slice a e l ++ drop (e + k) l) (omega arith), drop_at (take (a + k) l) (slice a e l ++ drop (e + k) l) (a + k) front, take-take a (a + k) l (omega arith), whole, rest, take-append-le a f zs (omega arith))
    (sym (append_assoc (take a f ++ take k row) (drop a f) (drop k zs)))

module _ {k n : ℕ} {list : List ℕ} (row : List ℕ) (h : Held k n list) (wide : k ≤ length row) where
  abbrev m : List (List ℕ)
  m = map_in k n list

  abbrev r : List ℕ
  r = take k row

  abbrev p : ℕ
  p = rank key_of (key_of r) m

  row-wide : length r ≡ k
  row-wide = length-take-le k row wide

  place-fits : p * k ≤ n * k
  place-fits = rows_fit p n k (omega (arith, rank-within key_of (key_of r) m, map-length k n list))

  place-held : stands key_of (key_of r) m ≡ true → p * k + k ≤ n * k
  place-held s = row_fits p n k (omega (arith, stands-within key_of (key_of r) m s, map-length k n list)) (omega arith)

  replaced : {after : List ℕ} → stands key_of (key_of r) m ≡ true → after ≡ paste list (p * k) row k → Inserted k n list r (Ok Replaced) after
  unfolding answer padded
  replaced {after} s e =
      let many : length m ≡ n = map-length k n list in
      let w : Wide k m = (held-map h).wide in
      let same : inserted key_of r m ≡ set m p r = rw (inserted-is key_of r m, s) in
      let is : Map k (set m p r) = record { wide = wide-set k p r m row-wide w; rises = rw same at (ascending-kept key_of r m h.rises) } in
      let full : length (flat (set m p r)) ≡ length (flat m) = flat-length k (set m p r) is.wide ∙ rw (length-set m p r) (sym (flat-length k m w)) in
      let left : after ≡ encode (length list) (set m p r) =
      e ∙ ap (λ (l : List ℕ). paste l (p * k) row k) h.holds
      ∙ put-over (flat m) _ row (p * k) k (rw (held-flat h) (place-held s))
      ∙ rw (full, flat-set k p r m w (omega (arith, stands-within key_of (key_of r) m s))) in
      let fits : length (set m p r) * k ≤ length list = rw (length-set m p r, many) h.fits in
      let done = encode-held (set m p r) h.some is fits (sym (length-set m p r ∙ many)) left in
      record { says = rw s; held = done.0; leaves = done.1 ∙ sym same }

  added : {after : List ℕ} → stands key_of (key_of r) m ≡ false → n * k + k ≤ length list
      → after ≡ paste (opened list (p * k) (n * k) k) (p * k) row k → Inserted k n list r (Ok Added) after
  unfolding answer padded
  added {after} s room e =
      let many : length m ≡ n = map-length k n list in
      let w : Wide k m = (held-map h).wide in
      let same : inserted key_of r m ≡ insert_at p r m = rw (inserted-is key_of r m, s) in
      let is : Map k (insert_at p r m) = record { wide = wide-insert k p r m row-wide w; rises = rw same at (ascending-kept key_of r m h.rises) } in
      let more : length (insert_at p r m) ≡ suc n = insert_at-length p r m ∙ ap suc many in
      let times : suc n * k ≡ n * k + k = suc-mul n k in
      let was : length (flat m) ≡ n * k = held-flat h in
      let long : length (flat (insert_at p r m)) ≡ n * k + k = flat-length k (insert_at p r m) is.wide ∙ rw more times in
      let zs = replicate {A = ℕ} (length list - length (flat m)) 0 in
      let back : length (flat m ++ zs) ≡ length list = ap length (sym h.holds) in
      let less : length list - length (flat m) - k ≡ length list - length (flat (insert_at p r m)) = omega arith in
      let left : after ≡ encode (length list) (insert_at p r m) =
      e ∙ ap (λ (l : List ℕ). paste (opened l (p * k) (n * k) k) (p * k) row k) h.holds
      ∙ put-between (flat m) zs row (p * k) (n * k) k was place-fits (omega arith)
      ∙ rw (drop-zeros k (length list - length (flat m)), ← flat-insert k p r m w (rank-within key_of (key_of r) m))
      (ap (λ (i : ℕ). flat (insert_at p r m) ++ replicate i 0) less) in
      let done = encode-held (insert_at p r m) h.some is (rw more (omega arith)) (add-one n ∙ sym more) left in
      record { says = rw (s, many, le-leb (n * k + k) (length list) room); held = done.0; leaves = done.1 ∙ sym same }

  full : stands key_of (key_of r) m ≡ false → length list < n * k + k → Inserted k n list r (Err ListFull) list
  unfolding answer
  full s none = record {
    says = rw (s, map-length k n list, lt-leb (n * k + k) (length list) none);
    held = h;
    leaves = refl;
  }

-- ---- the same, as the code meets it: the address is the row's first number, and its place the one that the search found among the rows

module _ {k n : ℕ} {list : List ℕ} (row : List ℕ) {rows : List (List ℕ)} (h : Held k n list) (long : length row ≡ k) (are : rows ≡ map_in k n list)
    {at : ℕ} (found : at ≡ rank key_of (key_of row) rows) where
  whole : take k row ≡ row
  whole = take_all k row (omega arith)

  wide : k ≤ length row
  wide = omega arith

  place : at ≡ rank key_of (key_of (take k row)) (map_in k n list)
  place = rw (whole, ← are) found

  standing : {b : Bool} → b ≡ holds_at rows at (key_of row) → stands key_of (key_of (take k row)) (map_in k n list) ≡ b
  standing e = rw (whole, ← are) (sym (e ∙ rw found (stands_at rows (key_of row))))

  pub at-fits : at * k ≤ length list
  at-fits = rw place (omega (arith, place-fits row h wide, h.fits))

  pub held_fits : true ≡ holds_at rows at (key_of row) → at * k + length row ≤ length list
  held_fits e = rw (place, long) (omega (arith, place-held row h wide (standing e), h.fits))

  pub before-end : at * k ≤ n * k
  before-end = rw place (place-fits row h wide)

  pub replaces : {after : List ℕ} → true ≡ holds_at rows at (key_of row) → after ≡ paste list (at * k) row (length row)
      → Inserted k n list row (Ok Replaced) after
  replaces {after} e left = rw whole at (replaced row h wide {after = after} (standing e) (rw (← place) (rw long at left)))

  pub adds : {after : List ℕ} → false ≡ holds_at rows at (key_of row) → n * k + k ≤ length list
      → after ≡ paste (opened list (at * k) (n * k) k) (at * k) row (length row) → Inserted k n list row (Ok Added) after
  adds {after} e room left = rw whole at (added row h wide {after = after} (standing e) room (rw (← place) (rw long at left)))

  pub is-full : false ≡ holds_at rows at (key_of row) → length list < n * k + k → Inserted k n list row (Err ListFull) list
  is-full e none = rw whole at (full row h wide (standing e) none)

-- ---- the answer with the count after it

abbrev entered_by : Result Change Refusal → ℕ → Result ℕ Refusal
entered_by (Ok Added) n = Ok (n + 1)
entered_by (Ok Replaced) n = Ok n
entered_by (Err refusal) n = Err refusal

-- it says whether the map after it fits
abbrev Fitting : Bool → ℕ → Result ℕ Refusal → Type 0
Fitting fits n r = r ≡ pick fits (Ok (rows_left r n)) (Err ListFull)

answer-fits : (k places n : ℕ) (row : List ℕ) (m : List (List ℕ)) → length m * k ≤ places
    → Fitting (fits k places (inserted key_of row m)) n (entered_by (answer k places row m) n)
unfolding answer
answer-fits k places n row m h = step (stands key_of (key_of row) m) (inserted-length key_of row m)
  where
    more : (b : Bool) → leb (length m * k + k) places ≡ b → Fitting (leb (length m * k + k) places) n (entered_by (pick b (Ok Added) (Err ListFull)) n)
    more true e = rw e
    more false e = rw e

    step : (s : Bool) → length (inserted key_of row m) ≡ pick s (length m) (suc (length m))
        → Fitting (leb (length (inserted key_of row m) * k) places) n (entered_by (pick s (Ok Replaced) (pick (leb (length m * k + k) places) (Ok Added) (Err ListFull))) n)
    step true e = rw (e, le-leb (length m * k) places h)
    step false e = rw (e, suc-mul (length m) k) (more (leb (length m * k + k) places) refl)

pub entered : {k n : ℕ} {list row after : List ℕ} (r : Result Change Refusal) → Held k n list → Inserted k n list row r after
    → Entering k n list row (entered_by r n) after
entered {k} {n} {list} {row} {after} r h i = step r says i
  where
    says : Fitting (fits k (length list) (inserted key_of row (map_in k n list))) n (entered_by r n)
    says =
        rw (sym i.says) at (answer-fits k (length list) n row (map_in k n list) (rw (map-length k n list) h.fits))

    step : (r : Result Change Refusal) → Fitting (fits k (length list) (inserted key_of row (map_in k n list))) n (entered_by r n) → Inserted k n list row r after
        → Entering k n list row (entered_by r n) after
    step (Ok Added) e j = record { held = j.held; says = e; leaves = j.leaves }
    step (Ok Replaced) e j = record { held = j.held; says = e; leaves = j.leaves }
    step (Err refusal) e j = record { held = j.held; says = e; leaves = j.leaves }
