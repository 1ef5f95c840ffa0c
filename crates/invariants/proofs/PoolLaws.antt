-- The pools after an insertion: they lie wholly in the code, the last is the greatest, and each register's pool is among them.
-- Assumes nothing.
use Rattle.base.proofs.Prelude.{◌∙◌, refl, ◌≡◌, ap, false, true, Bool, List, [], ◌∷◌, map, ◌≤◌, ℕ, ◌<◌, suc, zero, ◌/◌, max, arith, eqb, ltb, length}
use Rattle.base.proofs.Prelude.{set, eqb-true, ltb-true, ltb-false}
use Rattle.base.specs.Choice.{pick, either}
use Rattle.context.specs.Turn.{key_or0}
use Rattle.registers.specs.Registers.{is_odd, column_forgotten}
use Rattle.rows.specs.Order.{rising, ascending}
use Rattle.rows.specs.Rows.{stands, inserted}
use Rattle.rows.specs.Map.{key_of, stands-in, last_key, Wide}
use Rattle.rows.proofs.OrderLaws.{rising-ascending}
use Rattle.base.proofs.ChoiceLaws.{both-are, both_first, both-second}
use Rattle.validity.specs.Validity.{is_whole, are_whole, are_held}

pub wide-inserted : (k : ℕ) (row : List ℕ) (m : List (List ℕ)) → length row ≡ k → Wide k m → Wide k (inserted key_of row m)
unfolding inserted
wide-inserted k row [] e w = (e, tt)
wide-inserted k row (r ∷ rs) e w = step (ltb (key_of r) (key_of row)) (eqb (key_of r) (key_of row)) (wide-inserted k row rs e w.1)
  where
    step : (s t : Bool) → Wide k (inserted key_of row rs) → Wide k (pick s (r ∷ inserted key_of row rs) (pick t (row ∷ rs) (row ∷ r ∷ rs)))
    step true t more = (w.0, more)
    step false true more = (e, w.1)
    step false false more = (e, w)

-- ---- wholly in the code

module _ (base code : ℕ) where
  pub whole-stands : (m : List (List ℕ)) (x : ℕ) → are_whole base code m ≡ true → stands-in m x ≡ true → is_whole base code x ≡ true
  unfolding are_whole stands
  whole-stands [] x e h = absurd (let z : ◌≡◌ {A = ℕ} 0 1 = cc in omega arith)
  whole-stands (r ∷ rs) x e h = step (ltb (key_of r) x) (whole-stands rs x (both-second (is_whole base code (key_of r)) _ e)) h
    where
      step : (b : Bool) → (stands-in rs x ≡ true → is_whole base code x ≡ true) → pick b (stands-in rs x) (eqb (key_of r) x) ≡ true
          → is_whole base code x ≡ true
      step true next h = next h
      step false next h = rw (eqb-true (key_of r) x h) at (both_first (is_whole base code (key_of r)) _ e)

  pub whole-inserted : (row : List ℕ) (m : List (List ℕ)) → is_whole base code (key_of row) ≡ true → are_whole base code m ≡ true
      → are_whole base code (inserted key_of row m) ≡ true
  unfolding are_whole inserted
  whole-inserted row [] h e = rw h
  whole-inserted row (r ∷ rs) h e = step (ltb (key_of r) (key_of row)) (eqb (key_of r) (key_of row)) (whole-inserted row rs h rest)
    where
      rest : are_whole base code rs ≡ true
      rest = both-second (is_whole base code (key_of r)) _ e

      step : (s t : Bool) → are_whole base code (inserted key_of row rs) ≡ true
          → are_whole base code (pick s (r ∷ inserted key_of row rs) (pick t (row ∷ rs) (row ∷ r ∷ rs))) ≡ true
      step true t more = both-are (is_whole base code (key_of r)) _ (both_first (is_whole base code (key_of r)) _ e) more
      step false true more = both-are (is_whole base code (key_of row)) _ h rest
      step false false more = both-are (is_whole base code (key_of row)) _ h e

-- ---- the last

abbrev pub last_of : List (List ℕ) → ℕ
last_of m = key_or0 (last_key m)

last-above : (k : ℕ) (r : List ℕ) (rs : List (List ℕ)) → rising k (map key_of (r ∷ rs)) ≡ true → k < last_of (r ∷ rs)
unfolding rising last_key
last-above k r [] e = ltb-true k (key_of r) (both_first (ltb k (key_of r)) _ e)
last-above k r (s ∷ rs) e =
    let here = ltb-true k (key_of r) (both_first (ltb k (key_of r)) _ e) in
    let more = last-above (key_of r) s rs (both-second (ltb k (key_of r)) _ e) in
    omega arith

-- no pool lies above it
pub stands-last : (m : List (List ℕ)) (x : ℕ) → ascending (map key_of m) ≡ true → stands-in m x ≡ true → x ≤ last_of m
unfolding stands last_key ascending
stands-last [] x e h = absurd (let z : ◌≡◌ {A = ℕ} 0 1 = cc in omega arith)
stands-last (r ∷ []) x e h = step (ltb (key_of r) x) h
  where
    step : (b : Bool) → pick b false (eqb (key_of r) x) ≡ true → x ≤ key_of r
    step true h = absurd (let z : ◌≡◌ {A = ℕ} 0 1 = cc in omega arith)
    step false h = let same : key_of r ≡ x = eqb-true _ _ h in omega arith
stands-last (r ∷ s ∷ rs) x e h = step (ltb (key_of r) x) (stands-last (s ∷ rs) x (rising-ascending (key_of r) (map key_of (s ∷ rs)) e)) h
  where
    step : (b : Bool) → (stands-in (s ∷ rs) x ≡ true → x ≤ last_of (s ∷ rs)) → pick b (stands-in (s ∷ rs) x) (eqb (key_of r) x) ≡ true
        → x ≤ last_of (s ∷ rs)
    step true next h = next h
    step false next h = let same : key_of r ≡ x = eqb-true _ _ h in let up = last-above (key_of r) s rs e in omega arith

-- a row before others is not the last
last-after : (r : List ℕ) (m : List (List ℕ)) → 0 < length m → last_key (r ∷ m) ≡ last_key m
unfolding last_key
last-after r [] h = absurd (omega arith)
last-after r (s ∷ rs) h = refl

some-inserted : (row : List ℕ) (m : List (List ℕ)) → 0 < length (inserted key_of row m)
unfolding inserted
some-inserted row [] = omega arith
some-inserted row (r ∷ rs) = step (ltb (key_of r) (key_of row)) (eqb (key_of r) (key_of row))
  where
    step : (s t : Bool) → 0 < length (pick s (r ∷ inserted key_of row rs) (pick t (row ∷ rs) (row ∷ r ∷ rs)))
    step true t = omega arith
    step false true = omega arith
    step false false = omega arith

pub last-inserted : (row : List ℕ) (m : List (List ℕ)) → ascending (map key_of m) ≡ true
    → last_of (inserted key_of row m) ≡ max (last_of m) (key_of row)
unfolding inserted last_key ascending
last-inserted row [] e = omega arith
last-inserted row (r ∷ []) e = step (ltb (key_of r) (key_of row)) (eqb (key_of r) (key_of row)) refl refl
  where
    step : (s t : Bool) → ltb (key_of r) (key_of row) ≡ s → eqb (key_of r) (key_of row) ≡ t
        → last_of (pick s (r ∷ row ∷ []) (pick t (row ∷ []) (row ∷ r ∷ []))) ≡ max (key_of r) (key_of row)
    step true t f g = omega (arith, ltb-true)
    step false true f g = let same : key_of r ≡ key_of row = eqb-true _ _ g in omega arith
    step false false f g = omega (arith, ltb-false)
last-inserted row (r ∷ s ∷ rs) e =
    step (ltb (key_of r) (key_of row)) (eqb (key_of r) (key_of row)) refl refl
    (last-inserted row (s ∷ rs) (rising-ascending (key_of r) (map key_of (s ∷ rs)) e))
  where
    step : (a b : Bool) → ltb (key_of r) (key_of row) ≡ a → eqb (key_of r) (key_of row) ≡ b
        → last_of (inserted key_of row (s ∷ rs)) ≡ max (last_of (s ∷ rs)) (key_of row)
        → last_of (pick a (r ∷ inserted key_of row (s ∷ rs)) (pick b (row ∷ s ∷ rs) (row ∷ r ∷ s ∷ rs))) ≡ max (last_of (s ∷ rs)) (key_of row)
    step true b f g more = ap key_or0 (last-after r (inserted key_of row (s ∷ rs)) (some-inserted row (s ∷ rs))) ∙ more
    step false b f g more = under b
      where
        up : key_of row ≤ last_of (s ∷ rs)
        up = let above = last-above (key_of r) s rs e in omega (arith, ltb-false)

        under : (b : Bool) → last_of (pick b (row ∷ s ∷ rs) (row ∷ r ∷ s ∷ rs)) ≡ max (last_of (s ∷ rs)) (key_of row)
        under true = omega (arith, up)
        under false = omega (arith, up)

-- ---- the registers' pools

-- a register has none, or one of the pools
abbrev is_held : List (List ℕ) → ℕ → Bool
is_held m s = either (eqb s 0) (stands-in m s)

pub held_more : (m n : List (List ℕ)) → ((x : ℕ) → stands-in m x ≡ true → stands-in n x ≡ true) → (ss : List ℕ) → are_held ss m ≡ true
    → are_held ss n ≡ true
unfolding are_held
held_more m n more [] e = refl
held_more m n more (s ∷ ss) e =
    both-are (is_held n s) _ (step (eqb s 0) (both_first (is_held m s) _ e)) (held_more m n more ss (both-second (is_held m s) _ e))
  where
    step : (b : Bool) → either b (stands-in m s) ≡ true → either b (stands-in n s) ≡ true
    step true h = refl
    step false h = more s h

module _ (m : List (List ℕ)) where
  -- a register that is written has none
  pub held-cleared : (set : ℕ) (ss : List ℕ) → are_held ss m ≡ true → are_held (column_forgotten set ss) m ≡ true
  unfolding are_held column_forgotten
  held-cleared set [] e = refl
  held-cleared set (s ∷ ss) e =
      both-are (is_held m (pick (is_odd set) 0 s)) _ (step (is_odd set)) (held-cleared (set / 2) ss (both-second (is_held m s) _ e))
    where
      step : (b : Bool) → is_held m (pick b 0 s) ≡ true
      step true = refl
      step false = both_first (is_held m s) _ e

  -- one that is loaded has the pool's
  pub held-set : (ss : List ℕ) (r a : ℕ) → stands-in m a ≡ true → are_held ss m ≡ true → are_held (set ss r a) m ≡ true
  unfolding are_held
  held-set [] r a h e = refl
  held-set (s ∷ ss) zero a h e = both-are (is_held m a) _ (step (eqb a 0)) (both-second (is_held m s) _ e)
    where
      step : (b : Bool) → either b (stands-in m a) ≡ true
      step true = refl
      step false = h
  held-set (s ∷ ss) (suc r) a h e = both-are (is_held m s) _ (both_first (is_held m s) _ e) (held-set ss r a h (both-second (is_held m s) _ e))
