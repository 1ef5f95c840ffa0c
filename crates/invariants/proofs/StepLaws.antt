-- Steps from a walk that passes the checks are turns, since what they ask for holds again; and of any steps, no more find a word than the
-- code has bytes.
-- Assumes nothing.
use Rattle.base.proofs.Prelude.{◌∙◌, sym, refl, ◌≡◌, ap, subst, false, true, Bool, List, ◌≤◌, ℕ, ◌+◌, ◌<◌, ◌-◌, suc, zero, max, arith, length}
use Rattle.std.specs.Prelude.{Result, Ok, Err, is_ok}
use Rattle.base.specs.declared.refusal.Refusal.{Refusal}
use Rattle.std.specs.Prelude.{Option, Some, None}
use Rattle.base.specs.Choice.{pick, both}
use Rattle.base.specs.Words.{word_from}
use Rattle.context.specs.Context.{Maps, Given}
use Rattle.context.specs.Lists.{Lists, AllHeld, maps_in, written, places_of, given_by}
use Rattle.context.specs.Turn.{Turned, turn}
use Rattle.rows.specs.Map.{encode, map_in}
use Rattle.stepper.specs.Stepper.{After, is_going, check_at, step, step_where, turned, unchanged}
use Rattle.walk.specs.declared.Counts.{Counts}
use Rattle.walk.specs.declared.Options.{Options}
use Rattle.walk.specs.declared.Walk.{Walk}
use Rattle.invariants.specs.Turns.{turns_from, steps_from}
use Rattle.invariants.specs.WordSteps.{is_found, as_number, finds_word, word_steps}
use Rattle.invariants.proofs.CheckLaws.{number_passed}
use Rattle.invariants.proofs.EndingLaws.{ended-stays}
use Rattle.invariants.proofs.KeptLaws.{turn-kept, turn-held, turn-places}
use Rattle.invariants.proofs.TurnLaws.{turn-past, turn-counts}
use Rattle.invariants.proofs.WordLaws.{found_inside}

-- ---- lists, by what they hold and by their places

held-written : (n : Counts) (l : Lists) → AllHeld n l → l ≡ written l (maps_in n l)
held-written n l h =
    rw (← h.labels.holds, ← h.pools.holds, ← h.jump_tables.holds, ← h.inline_tables.holds, ← h.calls.holds)

abbrev written_in : Counts → Maps → Lists
written_in n m = record {
  labels = encode n.labels m.labels;
  pools = encode n.pools m.pools;
  jump_tables = encode n.jump_tables m.jump_tables;
  inline_tables = encode n.inline_tables m.inline_tables;
  calls = encode n.calls m.calls;
}

abbrev given_in : Options → List ℕ → List ℕ → Counts → Given
given_in o code starts n = record { options = o; places = n; code = code; starts = map_in 1 (length starts) starts }

module _ (l k : Lists) (places : places_of l ≡ places_of k) where
  pub same-written : (m : Maps) → written l m ≡ written k m
  same-written m = ap (λ (n : Counts). written_in n m) places

  pub same-given : (o : Options) (code starts : List ℕ) → given_by o code starts l ≡ given_by o code starts k
  same-given o code starts = ap (given_in o code starts) places

-- ---- steps are turns

-- what steps leave is what turns leave
pub record Turns (s : After) (l : Lists) (t : Turned) : Type 0 where
  pub walk : s.walk ≡ t.walk
  pub lists : s.lists ≡ written l t.maps

module _ (o : Options) (code starts : List ℕ) where
  abbrev turned_of : After → Turned
  turned_of s = record { walk = s.walk; maps = maps_in s.walk.counts s.lists }

  abbrev stepped : After → After
  stepped s = step o code starts s.walk s.lists

  abbrev turn_after : After → Turned
  turn_after s = turn (given_by o code starts s.lists) s.walk (maps_in s.walk.counts s.lists)

  -- a step from a walk that passes the checks
  pub step-turns : (s : After) → is_going s.walk.result ≡ true → check_at o code starts s.walk s.lists ≡ Ok tt
      → stepped s ≡ turned s.lists (turn_after s)
  unfolding step
  step-turns s on number = rw (on, number)

  -- after the end
  step-ended : (s : After) → is_going s.walk.result ≡ false → stepped s ≡ unchanged s.walk s.lists s.walk.result
  unfolding step
  step-ended s off = rw off

  pub steps-ended : (n : ℕ) (s : After) → is_going s.walk.result ≡ false
      → ((steps_from o code starts n s).walk ≡ s.walk) × ((steps_from o code starts n s).lists ≡ s.lists)
  unfolding steps_from
  steps-ended zero s off = (refl, refl)
  steps-ended (suc n) s off =
      subst (λ (x : After). ((steps_from o code starts n x).walk ≡ s.walk) × ((steps_from o code starts n x).lists ≡ s.lists)) (sym (step-ended s off))
      (steps-ended n (unchanged s.walk s.lists s.walk.result) off)

  turns-on : (n : ℕ) (s : After) (l : Lists) (t : Turned) → is_going s.walk.result ≡ true → check_at o code starts s.walk s.lists ≡ Ok tt
      → places_of s.lists ≡ places_of l → turned_of s ≡ t → Turns (steps_from o code starts n s) l (turns_from (given_by o code starts l) n t)
  unfolding steps_from turns_from
  turns-on zero s l t on number places same = record {
    walk = ap (λ (x : Turned). x.walk) same;
    lists = held-written s.walk.counts s.lists (number_passed o code starts s.walk s.lists number).lists
        ∙ same-written s.lists l places (maps_in s.walk.counts s.lists)
        ∙ ap (λ (x : Turned). written l x.maps) same;
  }
  turns-on (suc n) s l t on number places same =
      subst (λ (x : After). Turns (steps_from o code starts n x) l (turns_from (given_by o code starts l) (suc n) t)) (sym (step-turns s on number))
      (rw still
      (go (is_going (turn_after s).walk.result) refl
      (turns-on n (turned s.lists (turn_after s)) l (turn (given_by o code starts l) t.walk t.maps))))
    where
      g : Given
      g = given_by o code starts l

      still : is_going t.walk.result ≡ true
      still = ap (λ (x : Turned). is_going x.walk.result) (sym same) ∙ on

      turns : turn_after s ≡ turn g t.walk t.maps
      turns =
          ap (λ (x : Given). turn x s.walk (maps_in s.walk.counts s.lists)) (same-given s.lists l places o code starts)
          ∙ ap (λ (x : Turned). turn g x.walk x.maps) same

      read : turned_of (turned s.lists (turn_after s)) ≡ turn g t.walk t.maps
      read =
          ap (λ (m : Maps). record { walk = (turn_after s).walk; maps = m })
          (ap (λ (n : Counts). maps_in n (written s.lists (turn_after s).maps))
          (turn-counts (given_by o code starts s.lists) s.walk (maps_in s.walk.counts s.lists))
          ∙ (turn-held o code starts s.walk s.lists number).1)
          ∙ turns

      go : (b : Bool) → is_going (turn_after s).walk.result ≡ b
          → (is_going (turn_after s).walk.result ≡ true → check_at o code starts (turn_after s).walk (written s.lists (turn_after s).maps) ≡ Ok tt
          → places_of (written s.lists (turn_after s).maps) ≡ places_of l
          → turned_of (turned s.lists (turn_after s)) ≡ turn g t.walk t.maps
          → Turns (steps_from o code starts n (turned s.lists (turn_after s))) l (turns_from g n (turn g t.walk t.maps)))
          → Turns (steps_from o code starts n (turned s.lists (turn_after s))) l (turns_from g n (turn g t.walk t.maps))
      go true e more =
          more e (turn-kept o code starts s.walk s.lists number e) (turn-places o code starts s.walk s.lists number ∙ places) read
      go false e more =
          let at = steps-ended n (turned s.lists (turn_after s)) e in
          let off = ap (λ (x : Turned). is_going x.walk.result) (sym turns) ∙ e in
          let end = ended-stays g n (turn g t.walk t.maps) off in
          record {
            walk = at.0 ∙ ap (λ (x : Turned). x.walk) (turns ∙ sym end);
            lists = at.1 ∙ same-written s.lists l places (turn_after s).maps ∙ ap (λ (x : Turned). written l x.maps) (turns ∙ sym end);
          }

  -- from a walk that passes the checks
  pub steps-turn : (n : ℕ) (s : After) → is_going s.walk.result ≡ true → check_at o code starts s.walk s.lists ≡ Ok tt
      → Turns (steps_from o code starts n s) s.lists (turns_from (given_by o code starts s.lists) n (turned_of s))
  steps-turn n s on number = turns-on n s s.lists (turned_of s) on number refl refl

-- ---- how many steps find a word

module _ (o : Options) (code starts : List ℕ) where
  -- what lies ahead of the walk in the code
  abbrev rest : Walk → ℕ
  rest w = o.base + length code - max w.progress.address o.base

  -- none after the end
  ended-none : (n : ℕ) (w : Walk) (l : Lists) → is_going w.result ≡ false → word_steps o code starts n w l ≡ 0
  unfolding word_steps finds_word step
  ended-none zero w l e = refl
  ended-none (suc n) w l e = rw e (omega (arith, ended-none n w l e))

  finds : (w : Walk) (x : Option ℕ) → word_from code o.base w.progress.address ≡ x → as_number (is_found x) ≤ rest w
  finds w (Some word) e = omega (arith, found_inside code o.base w.progress.address word e)
  finds w None e = omega arith

  finds-more : (w : Walk) (x : Option ℕ) → word_from code o.base w.progress.address ≡ x
      → (k a : ℕ) → w.progress.address < a → k ≤ o.base + length code - max a o.base → as_number (is_found x) + k ≤ rest w
  finds-more w (Some word) e k a l m = omega (arith, found_inside code o.base w.progress.address word e)
  finds-more w None e k a l m = omega arith

  bounded : (n : ℕ) (w : Walk) (l : Lists) → word_steps o code starts n w l ≤ rest w
  unfolding word_steps finds_word step
  bounded zero w l = omega arith
  bounded (suc n) w l = go (is_going w.result) (check_at o code starts w l) (λ x m. bounded n x m)
    where
      here : Turned
      here = turn (given_by o code starts l) w (maps_in w.counts l)

      after : Bool → Result (Unit {0}) Refusal → After
      after g c = pick g (step_where o code starts w l c) (unchanged w l w.result)

      word : Option ℕ
      word = word_from code o.base w.progress.address

      ended : (b : Bool) → is_going here.walk.result ≡ b → ((x : Walk) (m : Lists) → word_steps o code starts n x m ≤ rest x)
          → as_number (is_found word) + word_steps o code starts n here.walk (written l here.maps) ≤ rest w
      ended true j more =
          finds-more w word refl _ here.walk.progress.address
          (turn-past (given_by o code starts l) w (maps_in w.counts l) j) (more here.walk (written l here.maps))
      ended false j more = rw (ended-none n here.walk (written l here.maps) j) (omega (arith, finds w word refl))

      go : (g : Bool) (c : Result (Unit {0}) Refusal) → ((x : Walk) (m : Lists) → word_steps o code starts n x m ≤ rest x)
          → as_number (both g (both (is_ok c) (is_found word))) + word_steps o code starts n (after g c).walk (after g c).lists ≤ rest w
      go false c more = omega (arith, more w l)
      go true (Err refusal) more = omega (arith, more w l)
      go true (Ok t) more = ended (is_going here.walk.result) refl more

  -- of any walk, over any lists
  pub word-steps : (n : ℕ) (w : Walk) (l : Lists) → word_steps o code starts n w l ≤ length code
  word-steps n w l = omega (arith, bounded n w l)
