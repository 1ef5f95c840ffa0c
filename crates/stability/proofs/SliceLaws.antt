-- The pools' slices of two runs: what the theorem compares of them, from the maps that they hold.
-- Assumes nothing.
use Rattle.base.proofs.Prelude.{◌∙◌, sym, refl, ◌≡◌, ap, subst, List, [], ◌++◌, ◌≤◌, ℕ, ◌+◌, ◌<◌, ◌-◌, suc, ◌*◌, zero, arith, le_of_suc-le-suc}
use Rattle.base.proofs.Prelude.{not-suc-le-zero, length, get_or, replicate}
use lib.Seq.{get_or-append-add}
use Rattle.context.specs.Context.{pool_row}
use Rattle.rows.specs.Rows.{padded}
use Rattle.rows.specs.Map.{key_of, map_in, flat, encode, Held, Map}
use Rattle.rows.proofs.MapLaws.{map-length, field_at, row-key, held-flat, encode-held, encode-length}
use Rattle.stability.specs.Runs.{SamePools, Valued}
use Rattle.stability.proofs.PairLaws.{Words, Paired, none, more, paired-keys, paired-length, paired-wide}

-- what stands after the rows
get_d-zeros : (n i : ℕ) → get_or (replicate {A = ℕ} n 0) i 0 ≡ 0
get_d-zeros zero i = refl
get_d-zeros (suc n) zero = refl
get_d-zeros (suc n) (suc i) = get_d-zeros n i

held-rest : {k n : ℕ} {list : List ℕ} → Held k n list → (i : ℕ) → n * k ≤ i → get_or list i 0 ≡ 0
unfolding padded
held-rest {k} {n} {list} h i l =
    let rows = flat (map_in k n list) in
    let zeros = replicate {A = ℕ} (length list - length rows) 0 in
    let place : length rows + (i - length rows) ≡ i = omega (arith, held-flat h) in
    ap (λ (r : List ℕ). get_or r i 0) h.holds
    ∙ subst (λ (j : ℕ). get_or (rows ++ zeros) j 0 ≡ 0) place
    (get_or-append-add rows zeros (i - length rows) 0 ∙ get_d-zeros (length list - length rows) (i - length rows))

module _ (c d : List ℕ) (base : ℕ) where
  record SameRow (p q : List ℕ) : Type 0 where
    address : key_of p ≡ key_of q
    mark : get_or p 2 0 ≡ get_or q 2 0
    words : Words c d base (key_of p) (get_or p 1 0) (get_or q 1 0)

  paired_at : {ps qs : List (List ℕ)} (i : ℕ) → Paired c d base ps qs → i < length ps → SameRow (get_or ps i []) (get_or qs i [])
  paired_at i none h = absurd (not-suc-le-zero h)
  paired_at zero (more w k) h = record { address = refl; mark = refl; words = w }
  paired_at (suc i) (more w k) h = paired_at i k (le_of_suc-le-suc h)

  pub record Slices (n : ℕ) (p q : List ℕ) : Type 0 where
    pub long : length p ≡ length q
    pub held : Held pool_row n p
    pub other : Held pool_row n q
    pub paired : Paired c d base (map_in pool_row n p) (map_in pool_row n q)

  module _ {n : ℕ} {p q : List ℕ} (s : Slices n p q) where
    row_at : (i : ℕ) → i < n → SameRow (get_or (map_in pool_row n p) i []) (get_or (map_in pool_row n q) i [])
    row_at i h = paired_at i s.paired (rw (map-length pool_row n p) h)

    pub same-pools : SamePools n p q
    same-pools = record {
      lengths = s.long;
      addresses = λ i h. sym (row-key pool_row n i p (omega arith) h) ∙ (row_at i h).address ∙ row-key pool_row n i q (omega arith) h;
      marks = λ i h. sym (field_at pool_row n i 2 p h (omega arith)) ∙ (row_at i h).mark ∙ field_at pool_row n i 2 q h (omega arith);
    }

    pub first-valued : Valued c base n p
    first-valued = record {
      fits = s.held.fits;
      words = λ i h.
          rw (row-key pool_row n i p (omega arith) h, field_at pool_row n i 1 p h (omega arith)) at (row_at i h).words.first;
      zeros = held-rest s.held;
    }

    pub second-valued : Valued d base n q
    second-valued = record {
      fits = s.other.fits;
      words = λ i h.
          rw ((row_at i h).address, row-key pool_row n i q (omega arith) h, field_at pool_row n i 1 q h (omega arith)) at (row_at i h).words.second;
      zeros = held-rest s.other;
    }

  -- pools in slices that are as long
  pub paired-slices : {places : ℕ} {rows others : List (List ℕ)} → Map pool_row rows → length rows * pool_row ≤ places → Paired c d base rows others
      → Slices (length rows) (encode places rows) (encode places others)
  paired-slices {places} {rows} {others} is room k =
      let many : length rows ≡ length others = sym (paired-length c d base k) in
      let wide = (paired-wide c d base k).1 in
      let held = encode-held {list = encode places rows} rows (omega arith) is room refl refl in
      let other =
      encode-held {list = encode places others} others (omega arith) (record { wide = wide; rises = rw (paired-keys c d base k) is.rises })
      (rw (← many) room) many refl
      in
      record {
        long = encode-length pool_row places rows is.wide room ∙ sym (encode-length pool_row places others wide (rw (← many) room));
        held = held.0;
        other = other.0;
        paired = rw (held.1, other.1) k;
      }
