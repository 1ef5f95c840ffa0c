-- The laws of a map in a slice: its rows, and the slice told by them.
-- Assumes nothing.
use Rattle.base.proofs.Prelude.{◌∙◌, sym, refl, ◌≡◌, ap, false, true, List, [], ◌∷◌, ◌++◌, map, append_assoc, ◌≤◌, ℕ, ◌+◌, ◌<◌, ◌-◌, suc, ◌*◌}
use Rattle.base.proofs.Prelude.{zero, arith, le_of_suc-le-suc, not-suc-le-zero, add-zero, zero-mul, suc-mul, leb, length, get_or, drop, take, replicate}
use Rattle.base.proofs.Prelude.{length-drop, length-append, length-replicate, length-take-le, take_at, drop_at, drop-drop, get_or-drop, get_or-take}
use Rattle.base.proofs.Prelude.{le-leb, leb-true}
use native.Mathlib.Nat.{mul-le-mul_right}
use lib.ListN.{replicate-append-replicate}
use lib.Seq.{take-add}
use Rattle.std.specs.Simd.{first_chunks}
use Rattle.rows.specs.Order.{rising, ascending, zeros}
use Rattle.rows.specs.Rows.{padded}
use Rattle.rows.proofs.OrderLaws.{cleared, zeros-replicate, cleared-padded, padded-cleared}
use Rattle.base.proofs.ChoiceLaws.{both_first, both-second}
use Rattle.rows.specs.Map.{key_of, Wide, Map, flat, encode, map_in, Held, in_order}

-- a row among n ends within what holds them
pub row_fits : (i n k : ℕ) {len : ℕ} → i < n → n * k ≤ len → i * k + k ≤ len
row_fits i n k l h = let up : suc i * k ≤ n * k = mul-le-mul_right k l in omega (arith, suc-mul i k)

pub rows_fit : (i n k : ℕ) → i ≤ n → i * k ≤ n * k
rows_fit i n k l = mul-le-mul_right k l

-- ---- the rows of a slice

pub map-length : (k n : ℕ) (xs : List ℕ) → length (map_in k n xs) ≡ n
unfolding map_in
map-length k zero xs = refl
map-length k (suc n) xs = ap suc (map-length k n (drop k xs))

-- the library's chunks are the rows
pub chunks-are : (k n m : ℕ) (xs : List ℕ) → n ≤ m → take n (first_chunks k m xs) ≡ map_in k n xs
unfolding map_in
chunks-are k zero m xs h = refl
chunks-are k (suc n) zero xs h = absurd (not-suc-le-zero h)
chunks-are k (suc n) (suc m) xs h = ap (λ (rs : List (List ℕ)). take k xs ∷ rs) (chunks-are k n m (drop k xs) (le_of_suc-le-suc h))

row_at : (k n i : ℕ) (xs : List ℕ) → i < n → get_or (map_in k n xs) i [] ≡ take k (drop (i * k) xs)
unfolding map_in
row_at k zero i xs h = absurd (not-suc-le-zero h)
row_at k (suc n) zero xs h = rw (zero-mul k)
row_at k (suc n) (suc i) xs h =
    let e : k + i * k ≡ suc i * k = omega (arith, suc-mul i k) in
    row_at k n i (drop k xs) (le_of_suc-le-suc h) ∙ ap (take k) (drop-drop (i * k) k xs ∙ ap (λ (j : ℕ). drop j xs) e)

pub field_at : (k n i j : ℕ) (xs : List ℕ) → i < n → j < k → get_or (get_or (map_in k n xs) i []) j 0 ≡ get_or xs (i * k + j) 0
field_at k n i j xs h l =
    ap (λ (r : List ℕ). get_or r j 0) (row_at k n i xs h) ∙ get_or-take k (drop (i * k) xs) j 0 l ∙ get_or-drop (i * k) xs j 0

pub row-key : (k n i : ℕ) (xs : List ℕ) → 0 < k → i < n → key_of (get_or (map_in k n xs) i []) ≡ get_or xs (i * k) 0
row-key k n i xs s h = field_at k n i 0 xs h s ∙ ap (λ (j : ℕ). get_or xs j 0) (add-zero (i * k))

pub map-wide : (k n : ℕ) (xs : List ℕ) → n * k ≤ length xs → Wide k (map_in k n xs)
unfolding map_in
map-wide k zero xs h = tt
map-wide k (suc n) xs h =
    let e : suc n * k ≡ n * k + k = suc-mul n k in
    (length-take-le k xs (omega arith), map-wide k n (drop k xs) (simp length-drop (omega arith)))

pub flat_map : (k n : ℕ) (xs : List ℕ) → flat (map_in k n xs) ≡ take (n * k) xs
unfolding map_in flat
flat_map k zero xs = rw (zero-mul k)
flat_map k (suc n) xs =
    let e : k + n * k ≡ suc n * k = omega (arith, suc-mul n k) in
    ap (λ (r : List ℕ). take k xs ++ r) (flat_map k n (drop k xs)) ∙ sym (take-add k (n * k) xs) ∙ ap (λ (j : ℕ). take j xs) e

pub flat-length : (k : ℕ) (m : List (List ℕ)) → Wide k m → length (flat m) ≡ length m * k
unfolding flat
flat-length k [] w = sym (zero-mul k)
flat-length k (r ∷ rs) w =
    let e : suc (length rs) * k ≡ length rs * k + k = suc-mul (length rs) k in
    let more : length (flat rs) ≡ length rs * k = flat-length k rs w.1 in
    let here : length r ≡ k = w.0 in
    simp length-append (omega arith)

-- a map is read back from where it stands
map_back : (k : ℕ) (m : List (List ℕ)) (zs : List ℕ) → Wide k m → map_in k (length m) (flat m ++ zs) ≡ m
unfolding map_in flat
map_back k [] zs w = refl
map_back k (r ∷ rs) zs w =
    rw (append_assoc r (flat rs) zs, take_at r (flat rs ++ zs) k w.0, drop_at r (flat rs ++ zs) k w.0, map_back k rs zs w.1)

-- ---- what a slice holds

pub encode-length : (k places : ℕ) (m : List (List ℕ)) → Wide k m → length m * k ≤ places → length (encode places m) ≡ places
unfolding padded
encode-length k places m w h =
    let f : length (flat m) ≡ length m * k = flat-length k m w in
    simp (length-append, length-replicate) (omega arith)

-- a slice that holds a map holds no other
pub encode-map : (k places : ℕ) (m : List (List ℕ)) → Wide k m → map_in k (length m) (encode places m) ≡ m
unfolding padded
encode-map k places m w = map_back k m (replicate (places - length (flat m)) 0) w

pub encode-held : {k n places : ℕ} {list : List ℕ} (m : List (List ℕ)) → 0 < k → Map k m → length m * k ≤ places
    → n ≡ length m → list ≡ encode places m → Held k n list × (map_in k n list ≡ m)
encode-held {k} {n} {places} {list} m s is h many e =
    let back : map_in k n list ≡ m = rw (many, e) (encode-map k places m is.wide) in
    let long : length list ≡ places = ap length e ∙ encode-length k places m is.wide h in
    (record { some = s; fits = rw many (omega arith); rises = rw back is.rises; holds = rw (back, long) e }, back)

module _ {k n : ℕ} {list : List ℕ} (h : Held k n list) where
  pub held-map : Map k (map_in k n list)
  held-map = record { wide = map-wide k n list h.fits; rises = h.rises }

  pub held-flat : length (flat (map_in k n list)) ≡ n * k
  held-flat = flat-length k (map_in k n list) (map-wide k n list h.fits) ∙ ap (λ (i : ℕ). i * k) (map-length k n list)

  -- the test says so
  pub held-in-order : in_order k n list ≡ true
  unfolding in_order cleared
  held-in-order =
      let f = flat (map_in k n list) in
      let within : length f ≤ length list = rw held-flat h.fits in
      let clear : cleared list (n * k) ≡ true = ap (λ (r : List ℕ). cleared r (n * k)) h.holds ∙ (rw held-flat at (padded-cleared (length list) f within)) in
      rw (le-leb (n * k) (length list) h.fits, h.rises) (both-second (leb (n * k) (length list)) _ clear)

  -- zeros for the rows are zeros everywhere
  pub held-cleared : replicate (n * k) 0 ++ drop (n * k) list ≡ replicate (length list) 0
  unfolding in_order
  held-cleared =
      let rest : zeros (drop (n * k) list) ≡ true =
      both-second (ascending (map key_of (map_in k n list))) _ (both-second (leb (n * k) (length list)) _ held-in-order) in
      let long : n * k + length (drop (n * k) list) ≡ length list = simp length-drop (omega (arith, h.fits)) in
      rw (zeros-replicate (drop (n * k) list) rest, replicate-append-replicate, long)

-- and says it of no other slice
pub in-order-held : {k n : ℕ} {list : List ℕ} → 0 < k → in_order k n list ≡ true → Held k n list
unfolding in_order cleared
in-order-held {k} {n} {list} s e =
    let fits : leb (n * k) (length list) ≡ true = both_first (leb (n * k) (length list)) _ e in
    let rest = both-second (leb (n * k) (length list)) _ e in
    let rises : ascending (map key_of (map_in k n list)) ≡ true = both_first _ (zeros (drop (n * k) list)) rest in
    let clear : zeros (drop (n * k) list) ≡ true = both-second (ascending (map key_of (map_in k n list))) _ rest in
    record {
      some = s;
      fits = leb-true _ _ fits;
      rises = rises;
      holds = rw (flat_map k n list) (cleared-padded list (n * k) (rw fits clear));
    }

-- zeros hold the map of no rows
pub zeros-held : (k n : ℕ) → 0 < k → Held k 0 (replicate n 0)
unfolding map_in flat padded ascending
zeros-held k n s =
    let long : length (replicate {A = ℕ} n 0) ≡ n = length-replicate n 0 in
    record { some = s; fits = omega (arith, zero-mul k); rises = refl; holds = rw long (ap (λ (i : ℕ). replicate {A = ℕ} i 0) (let e : n ≡ n - 0 = omega arith in e)) }

-- ---- the test holds exactly of the slices that hold a map

pub record Encoded (k n : ℕ) (list : List ℕ) : Type 0 where
  pub m : List (List ℕ)
  pub is : Map k m
  pub many : length m ≡ n
  pub fits : n * k ≤ length list
  pub holds : list ≡ encode (length list) m

pub in-order-encoded : {k n : ℕ} {list : List ℕ} → 0 < k → in_order k n list ≡ true → Encoded k n list
in-order-encoded {k} {n} {list} s e =
    let h = in-order-held s e in
    record { m = map_in k n list; is = held-map h; many = map-length k n list; fits = h.fits; holds = h.holds }

pub encoded-in-order : {k n : ℕ} {list : List ℕ} → 0 < k → Encoded k n list → in_order k n list ≡ true
encoded-in-order s e = held-in-order (encode-held e.m s e.is (rw e.many e.fits) (sym e.many) e.holds).0

-- ---- examples: a length that is no multiple of the stride; a number after the rows; an address twice

example-held : in_order 3 2 (4 ∷ 1 ∷ 0 ∷ 8 ∷ 2 ∷ 1 ∷ 0 ∷ 0 ∷ []) ≡ true
unfolding in_order map_in ascending rising zeros
example-held = refl

example-left : in_order 3 2 (4 ∷ 1 ∷ 0 ∷ 8 ∷ 2 ∷ 1 ∷ 0 ∷ 5 ∷ []) ≡ false
unfolding in_order map_in ascending rising zeros
example-left = refl

example-twice : in_order 2 2 (4 ∷ 1 ∷ 4 ∷ 2 ∷ []) ≡ false
unfolding in_order map_in ascending rising zeros
example-twice = refl
