-- What passed the refusals 1 to 4 on a code passes them on a longer one.
-- Assumes nothing.
use Rattle.base.proofs.Prelude.{◌∙◌, refl, ◌≡◌, ap, true, Bool, List, [], ◌∷◌, ◌≤◌, ℕ, ◌+◌, arith, leb, length, le-leb, leb-true}
use Rattle.base.specs.Choice.{both}
use Rattle.context.specs.Lists.{Lists, lists}
use Rattle.rows.specs.Map.{key_of}
use Rattle.validity.specs.Validity.{low, high, is_window, is_in_code, is_whole, are_whole, are_held}
use Rattle.walk.specs.declared.Options.{Options}
use Rattle.walk.specs.declared.Walk.{Walk}
use Rattle.invariants.proofs.CheckLaws.{Begins, Passed}
use Rattle.base.proofs.ChoiceLaws.{both_true}
use Rattle.stability.proofs.PairLaws.{Paired, none, more, paired-stands, paired-last}
use Rattle.stability.proofs.SliceLaws.{Slices}
use Rattle.stability.proofs.TurnLaws.{revalued}

-- the same lists, but for the pools
abbrev pub relisted : List ℕ → Lists → Lists
relisted pools l = lists l.labels pools l.jump_tables l.inline_tables l.calls

-- ---- a longer code

module _ (m n : ℕ) (longer : m ≤ n) where
  window-longer : (o : Options) → o.base + n ≤ high → is_window o m ≡ true → is_window o n ≡ true
  unfolding is_window
  window-longer o fits e =
      let one = both_true (leb low o.base) _ e in
      let two = both_true (leb (o.base + m) high) _ one.1 in
      rw (one.0, le-leb (o.base + n) high fits) two.1

  in-code-longer : (base start : ℕ) → is_in_code base m start ≡ true → is_in_code base n start ≡ true
  unfolding is_in_code
  in-code-longer base start e =
      let one = both_true (leb base start) _ e in
      let below = leb-true start (base + m) one.1 in
      rw one.0 (le-leb start (base + n) (omega arith))

  whole-longer : (base pool : ℕ) → is_whole base m pool ≡ true → is_whole base n pool ≡ true
  unfolding is_whole
  whole-longer base pool e =
      let one = both_true (leb base pool) _ e in
      let below = leb-true (pool + 4) (base + m) one.1 in
      rw one.0 (le-leb (pool + 4) (base + n) (omega arith))

  wholes-longer : (base : ℕ) (pools : List (List ℕ)) → are_whole base m pools ≡ true → are_whole base n pools ≡ true
  unfolding are_whole
  wholes-longer base [] e = refl
  wholes-longer base (p ∷ ps) e =
      let one = both_true (is_whole base m (key_of p)) _ e in
      rw (whole-longer base (key_of p) one.0) (wholes-longer base ps one.1)

-- ---- the other run's pools

module _ (c d : List ℕ) (base : ℕ) where
  paired-whole : {ps qs : List (List ℕ)} (n : ℕ) → Paired c d base ps qs → are_whole base n qs ≡ are_whole base n ps
  unfolding are_whole
  paired-whole n none = refl
  paired-whole n (more {a = a} w k) = ap (λ (b : Bool). both (is_whole base n a) b) (paired-whole n k)

  paired-held : {ps qs : List (List ℕ)} (sources : List ℕ) → Paired c d base ps qs → are_held sources qs ≡ are_held sources ps
  unfolding are_held
  paired-held [] k = refl
  paired-held (s ∷ ss) k = rw (paired-stands c d base s k, paired-held ss k)

-- ---- a step, and a begin, that passed

module _ (o : Options) (c d starts : List ℕ) (longer : length c ≤ length d) (fits : o.base + length d ≤ high) where
  pub passed-longer : (w : Walk) (l : Lists) (values pools : List ℕ) → Slices c d o.base w.counts.pools l.pools pools
      → Passed o c starts w l → Passed o d starts (revalued values w) (relisted pools l)
  passed-longer w l values pools s p = record {
    window = window-longer (length c) (length d) longer o fits p.window;
    start = in-code-longer (length c) (length d) longer o.base w.progress.start p.start;
    above = p.above;
    aligned = p.aligned;
    ascends = p.ascends;
    bytes = p.bytes;
    lists = record {
      labels = p.lists.labels;
      pools = s.other;
      jump_tables = p.lists.jump_tables;
      inline_tables = p.lists.inline_tables;
      calls = p.lists.calls;
    };
    whole =
        paired-whole c d o.base (length d) s.paired
        ∙ wholes-longer (length c) (length d) longer o.base _ p.whole;
    last = rw (paired-last c d o.base s.paired) p.last;
    held = paired-held c d o.base w.registers.sources s.paired ∙ p.held;
  }

  pub begins-longer : (start : ℕ) → Begins o start c starts → Begins o start d starts
  begins-longer start b = record {
    window = window-longer (length c) (length d) longer o fits b.window;
    start = in-code-longer (length c) (length d) longer o.base start b.start;
    aligned = b.aligned;
    ascends = b.ascends;
  }
