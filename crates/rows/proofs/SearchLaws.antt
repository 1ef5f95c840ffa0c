-- The laws of the lookups: an address's place among the rows, met from below and from above.
-- Assumes nothing.
use Rattle.base.proofs.Prelude.{◌∙◌, sym, refl, ◌≡◌, false, true, Bool, List, [], ◌∷◌, map, ◌≤◌, ℕ, ◌+◌, ◌<◌, ◌-◌, suc, zero, ◌^◌}
use Rattle.base.proofs.Prelude.{zero-le, suc-le-suc, arith, le_of_suc-le-suc, not-suc-le-zero, eqb, ltb, length, get_or, eq-eqb, ne_eqb, lt-ltb}
use Rattle.base.proofs.Prelude.{le-ltb, ltb-true, ltb-false, ⊎_elim, eq-or-lt_of_le}
use lib.Dec.{leb-suc-suc}
use lib.ListN.{length-map, get_or-map}
use Rattle.base.specs.Choice.{pick}
use Rattle.rows.specs.Order.{rising, ascending}
use Rattle.rows.specs.Rows.{rank, stands}
use Rattle.rows.specs.Run.{gap_from}
use Rattle.std.specs.Prelude.{Some, None, slice_get}
use Rattle.std.specs.Bool.{then_some}
use Rattle.rows.proofs.OrderLaws.{rising-at, rising-ascending}
use Rattle.rows.proofs.RunLaws.{Going, going_start, going_on, going-beyond, going_end}
use Rattle.rows.specs.Map.{key_of, holds_at, first_key, last_key, stands-in}
use Rattle.rows.proofs.RowLaws.{rank-within}
use Rattle.std.specs.List.Sorted.{IsNonDecreasingBy, IsPartitionPoint}
use Rattle.std.proofs.Common.{option_map}
use Rattle.std.proofs.lemmas.Bool.{cases_lt}
use Rattle.std.proofs.lemmas.List.Sorted.{IsNonDecreasingBy-from_default}

-- ---- an address's place

key-over : (y : ℕ) (m : List (List ℕ)) (i : ℕ) → rising y (map key_of m) ≡ true → i < length m → y < key_of (get_or m i [])
key-over y m i e h =
    let long : length (map key_of m) ≡ length m = length-map m key_of in
    rw (get_or-map key_of m i []) at (rising-at y (map key_of m) i e (omega arith))

-- a row below x stands before it
pub rank_up : (m : List (List ℕ)) (x i : ℕ) → ascending (map key_of m) ≡ true → i < length m → key_of (get_or m i []) < x → i < rank key_of x m
unfolding ascending rank
rank_up [] x i e h l = absurd (not-suc-le-zero h)
rank_up (r ∷ rs) x zero e h l = rw (lt-ltb (key_of r) x l) (suc-le-suc zero-le)
rank_up (r ∷ rs) x (suc i) e h l =
    let up : key_of r < key_of (get_or rs i []) = key-over (key_of r) rs i e (le_of_suc-le-suc h) in
    let less : key_of r < x = omega arith in
    rw (lt-ltb (key_of r) x less) (suc-le-suc (rank_up rs x i (rising-ascending (key_of r) (map key_of rs) e) (le_of_suc-le-suc h) l))

-- and one at or above it does not
pub rank_down : (m : List (List ℕ)) (x i : ℕ) → i < length m → x ≤ key_of (get_or m i []) → rank key_of x m ≤ i
unfolding rank
rank_down [] x i h l = zero-le
rank_down (r ∷ rs) x zero h l = rw (le-ltb (key_of r) x l) zero-le
rank_down (r ∷ rs) x (suc i) h l = step (ltb (key_of r) x) (rank_down rs x i (le_of_suc-le-suc h) l)
  where
    step : (t : Bool) → rank key_of x rs ≤ i → pick t (suc (rank key_of x rs)) 0 ≤ suc i
    step true q = suc-le-suc q
    step false q = zero-le

-- a map's rows rise
pub rows-rise : (m : List (List ℕ)) → ascending (map key_of m) ≡ true → IsNonDecreasingBy key_of m
unfolding ascending
rows-rise m e = IsNonDecreasingBy-from_default key_of m [] (up m e)
  where
    up : (m : List (List ℕ)) → ascending (map key_of m) ≡ true → (i j : ℕ) → i ≤ j → j < length m → key_of (get_or m i []) ≤ key_of (get_or m j [])
    up [] e i j le h = absurd (not-suc-le-zero h)
    up (r ∷ rs) e zero zero le h = omega arith
    up (r ∷ rs) e zero (suc j) le h = omega (arith, key-over (key_of r) rs j e (le_of_suc-le-suc h))
    up (r ∷ rs) e (suc i) zero le h = absurd (omega arith)
    up (r ∷ rs) e (suc i) (suc j) le h = up rs (rising-ascending (key_of r) (map key_of rs) e) i j (le_of_suc-le-suc le) (le_of_suc-le-suc h)

-- an address's place parts the rows below it from the others
pub parted-rank : (m : List (List ℕ)) (x i : ℕ) → ascending (map key_of m) ≡ true → i ≤ length m
    → IsPartitionPoint (λ r. ltb (key_of r) x ≡ true) (λ r. ltb (key_of r) x ≡ false) m i → i ≡ rank key_of x m
parted-rank m x i e h parted =
    let within : rank key_of x m ≤ length m = rank-within key_of x m in
    ⊎_elim
    (λ low. omega (arith, rank_up m x (rank key_of x m) e (omega arith) (ltb-true _ _ (parted.0 (rank key_of x m) [] zero-le low))))
    (λ high. ⊎_elim (λ same. same) (λ less. omega (arith, rank_down m x i (omega arith) (ltb-false _ _ (parted.1 i [] (omega arith) (omega arith))))) (eq-or-lt_of_le high))
    (cases_lt (rank key_of x m) i)

-- an address is held exactly where the row at its place has it
pub stands_at : (m : List (List ℕ)) (x : ℕ) → holds_at m (rank key_of x m) x ≡ stands key_of x m
unfolding stands holds_at rank
stands_at [] x = rw (le-ltb 0 0 zero-le)
stands_at (r ∷ rs) x = step (ltb (key_of r) x) (stands_at rs x)
  where
    step : (t : Bool) → holds_at rs (rank key_of x rs) x ≡ stands key_of x rs
        → holds_at (r ∷ rs) (pick t (suc (rank key_of x rs)) 0) x ≡ pick t (stands key_of x rs) (eqb (key_of r) x)
    step true e = rw (leb-suc-suc (suc (rank key_of x rs)) (length rs)) e
    step false e = rw (lt-ltb 0 (suc (length rs)) (suc-le-suc zero-le))

-- the place where a test holds
pub then-pick : (b : Bool) (i : ℕ) → then_some b i ≡ pick b (Some i) None
then-pick true i = refl
then-pick false i = refl

-- ---- the first and the last row, as the library has them

pub first-got : (m : List (List ℕ)) → option_map key_of (slice_get m 0) ≡ first_key m
unfolding first_key
first-got [] = refl
first-got (r ∷ rs) = refl

pub last-got : (m : List (List ℕ)) → option_map key_of (slice_get m (length m - 1)) ≡ last_key m
unfolding last_key
last-got [] = refl
last-got (r ∷ []) = refl
last-got (r ∷ s ∷ rs) =
    let e : length (r ∷ s ∷ rs) - 1 ≡ suc (length (s ∷ rs) - 1) = omega arith in
    rw e (last-got (s ∷ rs))

-- ---- the run of steps of 4: what is left of it, from x on, leads to the same answer, and x's place is not passed
pub record Scanned (m : List (List ℕ)) (address x at : ℕ) : Type 0 where
  pub fits : x < 2 ^ 32
  pub going : Going (stands-in m) (gap_from (stands-in m) address) x
  pub place : at ≤ rank key_of x m

module _ (m : List (List ℕ)) (rises : ascending (map key_of m) ≡ true) (address : ℕ) where
  pub scan-start : (at : ℕ) → address < 2 ^ 32 → at ≡ rank key_of address m → Scanned m address address at
  scan-start at h e = record { fits = h; going = going_start (stands-in m) address; place = omega arith }

  module _ (x at : ℕ) (scan : Scanned m address x at) where
    -- what the row at x's place says
    missing : (at < length m → x < key_of (get_or m at [])) → stands key_of x m ≡ false
    unfolding holds_at
    missing over = sym (stands_at m x) ∙ step (ltb at (length m)) refl
      where
        step : (b : Bool) → ltb at (length m) ≡ b → holds_at m (rank key_of x m) x ≡ false
        step true e =
            let room : at < length m = ltb-true _ _ e in
            let high = over room in
            let here : rank key_of x m ≡ at = omega (arith, rank_down m x at room (omega arith), scan.place) in
            rw (here, e) (ne_eqb (key_of (get_or m at [])) x (λ q. omega arith))
        step false e =
            let out : length m ≤ rank key_of x m = omega (arith, ltb-false at (length m) e, scan.place) in
            rw (le-ltb (rank key_of x m) (length m) out)

    standing : at < length m → key_of (get_or m at []) ≡ x → stands key_of x m ≡ true
    unfolding holds_at
    standing room same =
        let here : rank key_of x m ≡ at = omega (arith, rank_down m x at room (omega arith), scan.place) in
        sym (stands_at m x) ∙ rw (here, lt-ltb at (length m) room) (eq-eqb (key_of (get_or m at [])) x same)

    -- a row above ends the run, and so does the map's end
    pub scan-gap : (at < length m → x < key_of (get_or m at [])) → Some x ≡ gap_from (stands-in m) address
    scan-gap over = going_end scan.fits scan.going (missing over)

    -- an address that is held leads on, or beyond
    pub scan-beyond : at < length m → key_of (get_or m at []) ≡ x → 2 ^ 32 ≤ x + 4 → None ≡ gap_from (stands-in m) address
    scan-beyond room same high = going-beyond scan.fits scan.going (standing room same) high

    pub scan-held : at < length m → key_of (get_or m at []) ≡ x → x + 4 < 2 ^ 32 → Scanned m address (x + 4) (at + 1)
    scan-held room same low = record {
      fits = low;
      going = going_on scan.fits scan.going (standing room same) low;
      place = omega (arith, rank_up m (x + 4) at rises room (omega arith));
    }

    -- a row below is passed
    pub scan-passed : at < length m → key_of (get_or m at []) < x → Scanned m address x (at + 1)
    scan-passed room low = record { fits = scan.fits; going = scan.going; place = omega (arith, rank_up m x at rises room low) }
