-- The laws of lists of entries, over any type of entry and any key.
-- Assumes nothing.
use Rattle.base.proofs.Prelude.{◌∙◌, sym, refl, ◌≡◌, ap, false, true, Bool, false≢true, List, [], ◌∷◌, map, ⊎_elim, some, ◌≤◌, ℕ, ◌<◌, suc}
use Rattle.base.proofs.Prelude.{zero, zero-le, suc-le-suc, arith, eq-or-lt_of_le, eqb, ltb, length}
use Rattle.base.proofs.Prelude.{length-set, set, eq-eqb, ne_eqb, lt-ltb, le-ltb, eqb-true, ltb-true, ltb-false, eqb-false}
use Rattle.base.specs.Choice.{pick}
use Rattle.rows.specs.Order.{rising, ascending}
use Rattle.std.proofs.Math.Option.{Option, none}
use Rattle.rows.specs.Rows.{rank, stands, inserted}
use Rattle.base.proofs.ChoiceLaws.{both_first, both-second}

-- ---- an entry at a place

module _ {A : Type 0} where
  -- a stands at place i, and what stood there moves up
  unfoldable pub insert_at : ℕ → A → List A → List A
  insert_at zero a xs = a ∷ xs
  insert_at (suc i) a [] = a ∷ []
  insert_at (suc i) a (x ∷ xs) = x ∷ insert_at i a xs

  pub insert_at-length : (i : ℕ) (a : A) (xs : List A) → length (insert_at i a xs) ≡ suc (length xs)
  unfolding insert_at
  insert_at-length zero a xs = refl
  insert_at-length (suc i) a [] = refl
  insert_at-length (suc i) a (x ∷ xs) = ap suc (insert_at-length i a xs)

-- ---- the place of an address among entries

module _ {A : Type 0} (key : A → ℕ) where
  -- the entry with the address x
  unfoldable pub lookup : ℕ → List A → Option A
  lookup x [] = none
  lookup x (b ∷ bs) = pick (eqb (key b) x) (some b) (lookup x bs)

-- not below and not equal
next : (m n : ℕ) → ltb m n ≡ false → eqb m n ≡ false → n < m
next m n u s = ⊎_elim (λ e. absurd (eqb-false m n s (sym e))) (λ l. l) (eq-or-lt_of_le (ltb-false m n u))

module _ {A : Type 0} (key : A → ℕ) where
  pub rank-within : (x : ℕ) (xs : List A) → rank key x xs ≤ length xs
  unfolding rank
  rank-within x [] = zero-le
  rank-within x (b ∷ bs) = step (ltb (key b) x) (rank-within x bs)
    where
      step : (t : Bool) → rank key x bs ≤ length bs → pick t (suc (rank key x bs)) 0 ≤ suc (length bs)
      step true h = suc-le-suc h
      step false h = zero-le

  -- an address that stands has its place among the entries
  pub stands-within : (x : ℕ) (xs : List A) → stands key x xs ≡ true → rank key x xs < length xs
  unfolding rank stands
  stands-within x [] e = absurd (false≢true e)
  stands-within x (b ∷ bs) e = step (ltb (key b) x) (stands-within x bs) e
    where
      step : (t : Bool) → (stands key x bs ≡ true → rank key x bs < length bs)
          → pick t (stands key x bs) (eqb (key b) x) ≡ true → pick t (suc (rank key x bs)) 0 < suc (length bs)
      step true more s = suc-le-suc (more s)
      step false more s = suc-le-suc zero-le

  -- replaced at its place, or inserted there
  pub inserted-is : (a : A) (xs : List A)
      → inserted key a xs ≡ pick (stands key (key a) xs) (set xs (rank key (key a) xs) a) (insert_at (rank key (key a) xs) a xs)
  unfolding inserted rank stands insert_at
  inserted-is a [] = refl
  inserted-is a (b ∷ bs) = step (ltb (key b) (key a)) (inserted-is a bs)
    where
      front : (s : Bool) (u v : List A) → b ∷ pick s u v ≡ pick s (b ∷ u) (b ∷ v)
      front true u v = refl
      front false u v = refl

      step : (t : Bool)
          → inserted key a bs ≡ pick (stands key (key a) bs) (set bs (rank key (key a) bs) a) (insert_at (rank key (key a) bs) a bs)
          → pick t (b ∷ inserted key a bs) (pick (eqb (key b) (key a)) (a ∷ bs) (a ∷ b ∷ bs))
          ≡ pick (pick t (stands key (key a) bs) (eqb (key b) (key a)))
          (set (b ∷ bs) (pick t (suc (rank key (key a) bs)) 0) a)
          (insert_at (pick t (suc (rank key (key a) bs)) 0) a (b ∷ bs))
      step true more = ap (λ (r : List A). b ∷ r) more ∙ front (stands key (key a) bs) _ _
      step false more = refl

  -- a replaced entry keeps the count, a new one adds one
  pub inserted-length : (a : A) (xs : List A) → length (inserted key a xs) ≡ pick (stands key (key a) xs) (length xs) (suc (length xs))
  inserted-length a xs = ap length (inserted-is a xs) ∙ step (stands key (key a) xs)
    where
      step : (s : Bool)
          → length (pick s (set xs (rank key (key a) xs) a) (insert_at (rank key (key a) xs) a xs)) ≡ pick s (length xs) (suc (length xs))
      step true = length-set xs (rank key (key a) xs) a
      step false = insert_at-length (rank key (key a) xs) a xs

  -- ---- what an insert keeps

  -- keys that rise from above k, and a's key, which lies above k too
  rising-kept : (k : ℕ) (a : A) (xs : List A) → k < key a → rising k (map key xs) ≡ true → rising k (map key (inserted key a xs)) ≡ true
  unfolding rising inserted
  rising-kept k a [] h e = rw (lt-ltb k (key a) h)
  rising-kept k a (b ∷ bs) h e =
      step (ltb (key b) (key a)) refl (λ l. rising-kept (key b) a bs l (both-second (ltb k (key b)) _ e))
    where
      up : ltb k (key b) ≡ true
      up = both_first (ltb k (key b)) _ e

      rest : rising (key b) (map key bs) ≡ true
      rest = both-second (ltb k (key b)) _ e

      under : (t : Bool) → eqb (key b) (key a) ≡ t → ltb (key b) (key a) ≡ false
          → rising k (map key (pick t (a ∷ bs) (a ∷ b ∷ bs))) ≡ true
      under true s u =
          let same : key b ≡ key a = eqb-true _ _ s in
          rw (lt-ltb k (key a) h, ← same) rest
      under false s u =
          let less : key a < key b = next (key b) (key a) u s in
          rw (lt-ltb k (key a) h, lt-ltb (key a) (key b) less) rest

      step : (t : Bool) → ltb (key b) (key a) ≡ t
          → (key b < key a → rising (key b) (map key (inserted key a bs)) ≡ true)
          → rising k (map key (pick t (b ∷ inserted key a bs) (pick (eqb (key b) (key a)) (a ∷ bs) (a ∷ b ∷ bs)))) ≡ true
      step true s more = rw up (more (ltb-true _ _ s))
      step false s more = under (eqb (key b) (key a)) refl s

  pub ascending-kept : (a : A) (xs : List A) → ascending (map key xs) ≡ true → ascending (map key (inserted key a xs)) ≡ true
  unfolding ascending inserted rising
  ascending-kept a [] e = refl
  ascending-kept a (b ∷ bs) e = step (ltb (key b) (key a)) refl
    where
      under : (t : Bool) → eqb (key b) (key a) ≡ t → ltb (key b) (key a) ≡ false
          → ascending (map key (pick t (a ∷ bs) (a ∷ b ∷ bs))) ≡ true
      under true s u =
          let same : key b ≡ key a = eqb-true _ _ s in
          rw (← same) e
      under false s u = rw (lt-ltb (key a) (key b) (next (key b) (key a) u s)) e

      step : (t : Bool) → ltb (key b) (key a) ≡ t
          → ascending (map key (pick t (b ∷ inserted key a bs) (pick (eqb (key b) (key a)) (a ∷ bs) (a ∷ b ∷ bs)))) ≡ true
      step true s = rising-kept (key b) a bs (ltb-true _ _ s) e
      step false s = under (eqb (key b) (key a)) refl s

  -- membership: the address of a has a, and any other address what it had
  pub lookup-inserted : (x : ℕ) (a : A) (xs : List A) → lookup key x (inserted key a xs) ≡ pick (eqb (key a) x) (some a) (lookup key x xs)
  unfolding lookup inserted
  lookup-inserted x a [] = refl
  lookup-inserted x a (b ∷ bs) = step (ltb (key b) (key a)) refl (lookup-inserted x a bs)
    where
      -- b stands before a
      before : (s t : Bool) → eqb (key b) x ≡ s → eqb (key a) x ≡ t → key b < key a
          → pick s (some b) (pick t (some a) (lookup key x bs)) ≡ pick t (some a) (pick s (some b) (lookup key x bs))
      before true true p q l =
          let same : key b ≡ x = eqb-true _ _ p in
          let also : key a ≡ x = eqb-true _ _ q in
          absurd (omega arith)
      before true false p q l = refl
      before false true p q l = refl
      before false false p q l = refl

      -- a takes the place of b
      twin : (s t : Bool) → eqb (key b) x ≡ s → eqb (key a) x ≡ t → key b ≡ key a
          → pick t (some a) (lookup key x bs) ≡ pick t (some a) (pick s (some b) (lookup key x bs))
      twin s true p q e = refl
      twin true false p q e =
          let same : key b ≡ x = eqb-true _ _ p in
          absurd (eqb-false _ _ q (sym e ∙ same))
      twin false false p q e = refl

      under : (t : Bool) → eqb (key b) (key a) ≡ t
          → lookup key x (pick t (a ∷ bs) (a ∷ b ∷ bs)) ≡ pick (eqb (key a) x) (some a) (pick (eqb (key b) x) (some b) (lookup key x bs))
      under true s = twin (eqb (key b) x) (eqb (key a) x) refl refl (eqb-true _ _ s)
      under false s = refl

      step : (t : Bool) → ltb (key b) (key a) ≡ t
          → lookup key x (inserted key a bs) ≡ pick (eqb (key a) x) (some a) (lookup key x bs)
          → lookup key x (pick t (b ∷ inserted key a bs) (pick (eqb (key b) (key a)) (a ∷ bs) (a ∷ b ∷ bs)))
          ≡ pick (eqb (key a) x) (some a) (pick (eqb (key b) x) (some b) (lookup key x bs))
      step true s more = rw more (before (eqb (key b) x) (eqb (key a) x) refl refl (ltb-true _ _ s))
      step false s more = under (eqb (key b) (key a)) refl

  pub inserted-grows : (a : A) (xs : List A) → length xs ≤ length (inserted key a xs)
  inserted-grows a xs = step (stands key (key a) xs) (inserted-length a xs)
    where
      step : (s : Bool) → length (inserted key a xs) ≡ pick s (length xs) (suc (length xs)) → length xs ≤ length (inserted key a xs)
      step true e = omega arith
      step false e = omega arith

  -- an address stands after the insert where it is a's, or stood before
  pub stands-inserted : (x : ℕ) (a : A) (xs : List A) → stands key x (inserted key a xs) ≡ pick (eqb (key a) x) true (stands key x xs)
  unfolding stands inserted
  stands-inserted x a [] = step (ltb (key a) x) (eqb (key a) x) refl refl
    where
      step : (s t : Bool) → ltb (key a) x ≡ s → eqb (key a) x ≡ t → pick s false t ≡ pick t true false
      step true true u v =
          let less : key a < x = ltb-true _ _ u in
          let same : key a ≡ x = eqb-true _ _ v in
          absurd (omega arith)
      step true false u v = refl
      step false true u v = refl
      step false false u v = refl
  stands-inserted x a (b ∷ bs) = step (ltb (key b) (key a)) (eqb (key b) (key a)) refl refl (stands-inserted x a bs)
    where
      before : (s t : Bool) → ltb (key b) x ≡ s → eqb (key a) x ≡ t → key b < key a
          → pick s (pick t true (stands key x bs)) (eqb (key b) x) ≡ pick t true (pick s (stands key x bs) (eqb (key b) x))
      before true t u v l = refl
      before false true u v l =
          let least : x ≤ key b = ltb-false _ _ u in
          let same : key a ≡ x = eqb-true _ _ v in
          absurd (omega arith)
      before false false u v l = refl

      twin : (s t : Bool) → ltb (key a) x ≡ s → eqb (key a) x ≡ t
          → pick s (stands key x bs) t ≡ pick t true (pick s (stands key x bs) t)
      twin true true u v =
          let less : key a < x = ltb-true _ _ u in
          let same : key a ≡ x = eqb-true _ _ v in
          absurd (omega arith)
      twin true false u v = refl
      twin false true u v = refl
      twin false false u v = refl

      after : (s t : Bool) → ltb (key a) x ≡ s → eqb (key a) x ≡ t → key a < key b
          → pick s (stands key x (b ∷ bs)) t ≡ pick t true (stands key x (b ∷ bs))
      after true true u v l =
          let less : key a < x = ltb-true _ _ u in
          let same : key a ≡ x = eqb-true _ _ v in
          absurd (omega arith)
      after true false u v l = refl
      after false true u v l = refl
      after false false u v l =
          let low : x < key a = next (key a) x u v in
          let least : x ≤ key b = omega arith in
          rw (le-ltb (key b) x least, ne_eqb (key b) x (λ e. omega arith))

      step : (s t : Bool) → ltb (key b) (key a) ≡ s → eqb (key b) (key a) ≡ t
          → stands key x (inserted key a bs) ≡ pick (eqb (key a) x) true (stands key x bs)
          → stands key x (pick s (b ∷ inserted key a bs) (pick t (a ∷ bs) (a ∷ b ∷ bs)))
          ≡ pick (eqb (key a) x) true (pick (ltb (key b) x) (stands key x bs) (eqb (key b) x))
      step true t u v more = rw more (before (ltb (key b) x) (eqb (key a) x) refl refl (ltb-true _ _ u))
      step false true u v more =
          let same : key b ≡ key a = eqb-true _ _ v in
          rw same (twin (ltb (key a) x) (eqb (key a) x) refl refl)
      step false false u v more = after (ltb (key a) x) (eqb (key a) x) refl refl (next (key b) (key a) u v)

  -- ---- two inserts at different addresses agree in either order

  -- the first address of a list lies above k
  abbrev Over : ℕ → List A → Type 0
  Over k [] = Unit {0}
  Over k (b ∷ bs) = k < key b

  inserted-front : (a : A) (xs : List A) → Over (key a) xs → inserted key a xs ≡ a ∷ xs
  unfolding inserted
  inserted-front a [] o = refl
  inserted-front a (b ∷ bs) o =
      let least : key a ≤ key b = omega arith in
      rw (le-ltb (key b) (key a) least, ne_eqb (key b) (key a) (λ e. omega arith))

  over-inserted : (k : ℕ) (b : A) (xs : List A) → k < key b → Over k xs → Over k (inserted key b xs)
  unfolding inserted
  over-inserted k b [] l o = l
  over-inserted k b (c ∷ cs) l o = step (ltb (key c) (key b)) (eqb (key c) (key b))
    where
      step : (s t : Bool) → Over k (pick s (c ∷ inserted key b cs) (pick t (b ∷ cs) (b ∷ c ∷ cs)))
      step true t = o
      step false true = l
      step false false = l

  inserted-past : (a c : A) (cs : List A) → key c < key a → inserted key a (c ∷ cs) ≡ c ∷ inserted key a cs
  unfolding inserted
  inserted-past a c cs l = rw (lt-ltb (key c) (key a) l)

  inserted-here : (a c : A) (cs : List A) → key c ≡ key a → inserted key a (c ∷ cs) ≡ a ∷ cs
  unfolding inserted
  inserted-here a c cs e =
      let least : key a ≤ key c = omega arith in
      rw (le-ltb (key c) (key a) least, eq-eqb (key c) (key a) e)

  lower-first : (a b : A) (xs : List A) → key a < key b → inserted key a (inserted key b xs) ≡ inserted key b (inserted key a xs)
  lower-first a b [] l =
      inserted-front a (inserted key b []) (over-inserted (key a) b [] l tt)
      ∙ sym (ap (inserted key b) (inserted-front a [] tt) ∙ inserted-past b a [] l)
  lower-first a b (c ∷ cs) l = step (ltb (key c) (key a)) (eqb (key c) (key a)) refl refl (lower-first a b cs l)
    where
      step : (s t : Bool) → ltb (key c) (key a) ≡ s → eqb (key c) (key a) ≡ t
          → inserted key a (inserted key b cs) ≡ inserted key b (inserted key a cs)
          → inserted key a (inserted key b (c ∷ cs)) ≡ inserted key b (inserted key a (c ∷ cs))
      step true t u v more =
          let low : key c < key a = ltb-true _ _ u in
          let also : key c < key b = omega arith in
          rw (inserted-past b c cs also, inserted-past a c cs low, inserted-past a c (inserted key b cs) low, inserted-past b c (inserted key a cs) also, more)
      step false true u v more =
          let same : key c ≡ key a = eqb-true _ _ v in
          let low : key c < key b = omega arith in
          rw (inserted-past b c cs low, inserted-here a c cs same, inserted-here a c (inserted key b cs) same, inserted-past b a cs l)
      step false false u v more =
          let high : key a < key c = next (key c) (key a) u v in
          inserted-front a (inserted key b (c ∷ cs)) (over-inserted (key a) b (c ∷ cs) l high)
          ∙ sym (ap (inserted key b) (inserted-front a (c ∷ cs) high) ∙ inserted-past b a (c ∷ cs) l)

  pub inserted-either : (a b : A) (xs : List A) → (key a ≡ key b → ⊥) → inserted key a (inserted key b xs) ≡ inserted key b (inserted key a xs)
  inserted-either a b xs d = step (ltb (key a) (key b)) refl
    where
      step : (t : Bool) → ltb (key a) (key b) ≡ t → inserted key a (inserted key b xs) ≡ inserted key b (inserted key a xs)
      step true s = lower-first a b xs (ltb-true _ _ s)
      step false s = sym (lower-first b a xs (next (key a) (key b) s (ne_eqb (key a) (key b) d)))
