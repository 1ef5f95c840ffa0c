-- One turn that passed the checks, on two codes: the same, but for the values of pools and in registers.
-- Assumes nothing.
use Rattle.base.proofs.Prelude.{refl, ◌≡◌, ap, true, List, [], ◌∷◌, ◌≤◌, ℕ, ◌+◌, ◌-◌, arith, leb, ltb, length, leb-true}
use Rattle.arm.specs.Ins.{decode_of}
use Rattle.std.specs.Prelude.{Option, Some, None}
use Rattle.base.specs.Words.{word_from}
use Rattle.context.specs.Blocks.{saved_by_word, saved_at}
use Rattle.context.specs.Context.{pool_row}
use Rattle.context.specs.Lists.{Lists, maps_in, written, given_by}
use Rattle.context.specs.Turn.{arm_size, Turned, turn, key_or0}
use Rattle.rows.specs.Map.{key_of, map_in, last_key}
use Rattle.validity.specs.Validity.{is_whole, are_whole}
use Rattle.walk.specs.declared.Options.{Options}
use Rattle.walk.specs.declared.Walk.{Walk}
use Rattle.invariants.proofs.CheckLaws.{Passed}
use Rattle.base.proofs.ChoiceLaws.{both_true}
use Rattle.invariants.proofs.KeptLaws.{turn-fits}
use Rattle.invariants.proofs.TurnLaws.{turn-counts}
use Rattle.stability.specs.Runs.{Agree}
use Rattle.stability.proofs.CodeLaws.{inside_found, same_word}
use Rattle.stability.proofs.TurnLaws.{SameBehind, Unrefused, revalued, SameTurn, AlikeTurn, turn-alike, kept_same, long_same}
use Rattle.stability.proofs.SliceLaws.{Slices, paired-slices}
use Rattle.stability.proofs.LongerLaws.{relisted}
use Rattle.stability.proofs.LeadLaws.{turn-rises, turn-return, turn-found}

-- the turn of a step that passed the checks
abbrev pub turn_of : Options → List ℕ → List ℕ → Walk → Lists → Turned
turn_of o code starts w l = turn (given_by o code starts l) w (maps_in w.counts l)

-- the last pool, where there is one, lies wholly in the code
last-whole : (base n : ℕ) (pools : List (List ℕ)) → are_whole base n pools ≡ true → key_or0 (last_key pools) ≤ base + n - 4
unfolding last_key are_whole is_whole
last-whole base n [] e = omega arith
last-whole base n (p ∷ []) e =
    let one = both_true (is_whole base n (key_of p)) _ e in
    let end = leb-true (key_of p + 4) (base + n) (both_true (leb base (key_of p)) _ one.0).1 in
    omega arith
last-whole base n (p ∷ q ∷ ps) e = last-whole base n (q ∷ ps) (both_true (is_whole base n (key_of p)) _ e).1

module _ (o : Options) (starts c d : List ℕ) (longer : length c ≤ length d) (w : Walk) (l : Lists) (values pools : List ℕ)
    (s : Slices c d o.base w.counts.pools l.pools pools) (passed : Passed o c starts w l) where
  abbrev a : ℕ
  a = w.progress.address

  alike : word_from d o.base a ≡ word_from c o.base a
      → ((word : ℕ) → word_from c o.base a ≡ Some word → SameBehind c d o.base a arm_size (decode_of word a) (maps_in w.counts l))
      → AlikeTurn c d o.base (turn_of o c starts w l) (turn_of o d starts (revalued values w) (relisted pools l))
  alike here behind =
      let last = rw (← passed.last) at (last-whole o.base (length c) (maps_in w.counts l).pools passed.whole) in
      rw (← s.long)
      (turn-alike (given_by o c starts l) c d longer w (maps_in w.counts l) (map_in pool_row w.counts.pools pools) values s.paired
      last here behind)

  -- the pools' slices after a turn
  pub turn-slices : (t : Turned) → SameTurn c d o.base (turn_of o c starts w l) t
      → Slices c d o.base (turn_of o c starts w l).walk.counts.pools
      (written l (turn_of o c starts w l).maps).pools
      (written (relisted pools l) t.maps).pools
  turn-slices t k =
      let fit = (turn-fits o c starts w l passed).pools in
      rw (turn-counts (given_by o c starts l) w (maps_in w.counts l), k.maps, ← s.long)
      (paired-slices c d o.base fit.is fit.room k.paired)

  -- on a code as long, with the same words here and behind, any turn is the same: a refused one too
  pub turn-long : length c ≡ length d → word_from d o.base w.progress.address ≡ word_from c o.base w.progress.address
      → word_from d o.base (w.progress.address + arm_size) ≡ word_from c o.base (w.progress.address + arm_size)
      → SameTurn c d o.base (turn_of o c starts w l) (turn_of o d starts (revalued values w) (relisted pools l))
  unfolding saved_at
  turn-long long here next =
      long_same long (alike here (λ word found code p returns inside. ap (λ (y : Option ℕ). ltb 0 (saved_by_word y (a + arm_size))) next))

  -- on a longer code, one that is not refused, where the codes agree up to four bytes past where it leads
  module _ (from to : ℕ) (agree : Agree c d o.base from (to + 4)) (above : from ≤ w.progress.address)
      (kept : Unrefused (turn_of o c starts w l).walk.result) (below : (turn_of o c starts w l).walk.progress.address ≤ to) where
    here : word_from d o.base a ≡ word_from c o.base a
    here = step (word_from c o.base a) refl
      where
        step : (y : Option ℕ) → word_from c o.base a ≡ y → word_from d o.base a ≡ word_from c o.base a
        step (Some word) e =
            let up = turn-rises (given_by o c starts l) w (maps_in w.counts l) in
            same_word c d o.base longer from (to + 4) agree a (inside_found c o.base a word e) above (omega arith)
        step None e = absurd (turn-found (given_by o c starts l) w (maps_in w.counts l) kept e)

    -- a return leads past itself
    behind : (word : ℕ) → word_from c o.base a ≡ Some word → SameBehind c d o.base a arm_size (decode_of word a) (maps_in w.counts l)
    unfolding saved_at
    behind word found code p returns inside =
        let past = turn-return (given_by o c starts l) w (maps_in w.counts l) word found code p returns kept in
        let start = passed.above in
        ap (λ (y : Option ℕ). ltb 0 (saved_by_word y (a + arm_size)))
        (same_word c d o.base longer from (to + 4) agree (a + arm_size) (record { low = omega arith; high = inside }) (omega arith) (omega arith))

    pub turn-same : SameTurn c d o.base (turn_of o c starts w l) (turn_of o d starts (revalued values w) (relisted pools l))
    turn-same = kept_same (alike here behind) kept
