-- The words of two codes that agree, one at least as long as the other.
-- Assumes nothing.
use Rattle.base.proofs.Prelude.{refl, ◌≡◌, false, true, Bool, List, ◌≤◌, ℕ, ◌+◌, ◌<◌, ◌-◌, arith, leb, length, get_or, drop, length-drop, get_or-drop}
use Rattle.base.proofs.Prelude.{le-ltb, leb-true, leb-false}
use Rattle.std.specs.Prelude.{Some, None}
use Rattle.base.specs.Words.{word_from, first_word, little_endian}
use Rattle.invariants.proofs.WordLaws.{found_inside}
use Rattle.stability.specs.Runs.{Agree}

-- the four bytes from a place on
abbrev pub bytes_from : List ℕ → ℕ → ℕ
bytes_from code k = little_endian (get_or code (k + 0) 0) (get_or code (k + 1) 0) (get_or code (k + 2) 0) (get_or code (k + 3) 0)

-- the four bytes at an address are in the code: just then there is a word
pub record Inside (code : List ℕ) (base a : ℕ) : Type 0 where
  pub low : base ≤ a
  pub high : a + 4 ≤ base + length code

first_found : (code : List ℕ) (k : ℕ) → k + 4 ≤ length code → first_word (drop k code) ≡ Some (bytes_from code k)
unfolding first_word
first_found code k h =
    rw (
      length-drop k code,
      le-ltb (length code - k) 4 (omega arith),
      get_or-drop k code 0 0,
      get_or-drop k code 1 0,
      get_or-drop k code 2 0,
      get_or-drop k code 3 0,
    )

pub word-inside : (code : List ℕ) (base a : ℕ) → Inside code base a → word_from code base a ≡ Some (bytes_from code (a - base))
unfolding word_from
word-inside code base a i =
    rw (le-ltb a base i.low, le-ltb (length code) (a - base) (omega arith)) (first_found code (a - base) (omega arith))

pub inside_found : (code : List ℕ) (base a w : ℕ) → word_from code base a ≡ Some w → Inside code base a
inside_found code base a w e = let i = found_inside code base a w e in record { low = i.0; high = i.1 }

-- a longer code has a word where the shorter has one
pub inside-longer : (c d : List ℕ) (base a : ℕ) → length c ≤ length d → Inside c base a → Inside d base a
inside-longer c d base a longer i = record { low = i.low; high = omega arith }

-- where only the second has a word, it is longer
pub longer-found : (c d : List ℕ) (base a w : ℕ) → word_from c base a ≡ None → word_from d base a ≡ Some w → length c < length d
longer-found c d base a w none some = step (leb (a + 4) (base + length c)) refl (inside_found d base a w some)
  where
    step : (b : Bool) → leb (a + 4) (base + length c) ≡ b → Inside d base a → length c < length d
    step true e i =
        let found = word-inside c base a (record { low = i.low; high = leb-true (a + 4) (base + length c) e }) in
        absurd (let z : ◌≡◌ {A = ℕ} 0 1 = cc in omega arith)
    step false e i = omega (arith, leb-false)

module _ (c d : List ℕ) (base : ℕ) (longer : length c ≤ length d) (from to : ℕ) (agree : Agree c d base from to)
    (a : ℕ) (i : Inside c base a) (above : from ≤ a) (below : a + 4 ≤ to) where
  same_byte : (j : ℕ) → j < 4 → get_or c (a - base + j) 0 ≡ get_or d (a - base + j) 0
  same_byte j h =
      let k : a + j - base ≡ a - base + j = omega arith in
      rw k at (agree.at (a + j) (omega arith) (omega arith) (omega arith) (omega arith))

  -- a word of the shorter code between the two addresses is the longer's too
  pub same_word : word_from d base a ≡ word_from c base a
  same_word =
      let z : get_or c (a - base + 0) 0 ≡ get_or d (a - base + 0) 0 = same_byte 0 (omega arith) in
      let one : get_or c (a - base + 1) 0 ≡ get_or d (a - base + 1) 0 = same_byte 1 (omega arith) in
      let two : get_or c (a - base + 2) 0 ≡ get_or d (a - base + 2) 0 = same_byte 2 (omega arith) in
      let three : get_or c (a - base + 3) 0 ≡ get_or d (a - base + 3) 0 = same_byte 3 (omega arith) in
      rw (word-inside c base a i, word-inside d base a (inside-longer c d base a longer i), z, one, two, three)
