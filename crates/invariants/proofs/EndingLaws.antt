-- Each turn that goes on moves the walk on in the code, so a walk has a result after one turn more than the code has bytes.
-- Assumes nothing.
use Rattle.base.proofs.Prelude.{refl, ◌≡◌, ap, true, false, Bool, ◌≤◌, ℕ, ◌+◌, suc, zero, arith, le_of_suc-le-suc, not-suc-le-zero, length}
use Rattle.base.specs.Choice.{pick}
use Rattle.context.specs.Context.{Given}
use Rattle.context.specs.Turn.{Turned, context_at, turn}
use Rattle.stepper.specs.Stepper.{is_going}
use Rattle.invariants.specs.Turns.{turns_from}
use Rattle.invariants.proofs.KeptLaws.{sound-fits, sound-kept}
use Rattle.invariants.proofs.SoundLaws.{AllFit, Sound}
use Rattle.invariants.proofs.TurnLaws.{turn-onward, turn-past}
use Rattle.invariants.proofs.WordLaws.{found_inside}

module _ (g : Given) where
  abbrev next : Turned → Turned
  next t = turn g t.walk t.maps

  abbrev goes_on : Turned → Bool
  goes_on t = is_going t.walk.result

  -- a turn that goes on has found a word
  inside : (t : Turned) → goes_on (next t) ≡ true
      → (g.options.base ≤ t.walk.progress.address) × (t.walk.progress.address + 4 ≤ g.options.base + length g.code)
  inside t h =
      let n = turn-onward g t.walk t.maps h in
      found_inside g.code g.options.base t.walk.progress.address n.word n.found

  -- a walk that has ended stays
  pub ended-stays : (n : ℕ) (t : Turned) → goes_on t ≡ false → turns_from g n t ≡ t
  unfolding turns_from
  ended-stays zero t off = refl
  ended-stays (suc n) t off = rw off

  pub stays : (n m : ℕ) (t : Turned) → n ≤ m → goes_on (turns_from g n t) ≡ false → turns_from g m t ≡ turns_from g n t
  unfolding turns_from
  stays zero m t h off = ended-stays m t off
  stays (suc n) zero t h off = absurd (not-suc-le-zero h)
  stays (suc n) (suc m) t h off = go (goes_on t) off (stays n m (next t) (le_of_suc-le-suc h))
    where
      go : (b : Bool) → goes_on (pick b (turns_from g n (next t)) t) ≡ false
          → (goes_on (turns_from g n (next t)) ≡ false → turns_from g m (next t) ≡ turns_from g n (next t))
          → pick b (turns_from g m (next t)) t ≡ pick b (turns_from g n (next t)) t
      go true k more = more k
      go false k more = refl

  -- the last of n + 1 turns
  pub one_more : (n : ℕ) (t : Turned) → goes_on (turns_from g n t) ≡ true → turns_from g (suc n) t ≡ next (turns_from g n t)
  unfolding turns_from
  one_more zero t on = rw on
  one_more (suc n) t on = go (goes_on t) refl on (one_more n (next t))
    where
      go : (b : Bool) → goes_on t ≡ b → goes_on (pick b (turns_from g n (next t)) t) ≡ true
          → (goes_on (turns_from g n (next t)) ≡ true → turns_from g (suc n) (next t) ≡ next (turns_from g n (next t)))
          → pick b (turns_from g (suc n) (next t)) t ≡ next (pick b (turns_from g n (next t)) t)
      go true e k more = more k
      go false e k more = absurd (let z : ◌≡◌ {A = ℕ} 0 1 = cc in omega arith)

  -- n turns go at least n bytes on
  within : (n : ℕ) (t : Turned) → goes_on (turns_from g (suc n) t) ≡ true
      → (g.options.base ≤ t.walk.progress.address) × (t.walk.progress.address + n + 4 ≤ g.options.base + length g.code)
  unfolding turns_from
  within zero t on = go (goes_on t) refl on
    where
      go : (b : Bool) → goes_on t ≡ b → goes_on (pick b (next t) t) ≡ true
          → (g.options.base ≤ t.walk.progress.address) × (t.walk.progress.address + 0 + 4 ≤ g.options.base + length g.code)
      go true e k = let i = inside t k in omega arith
      go false e k = absurd (let z : ◌≡◌ {A = ℕ} 0 1 = cc in omega arith)
  within (suc n) t on = go (goes_on t) (goes_on (next t)) refl refl on (within n (next t))
    where
      go : (b d : Bool) → goes_on t ≡ b → goes_on (next t) ≡ d → goes_on (pick b (pick d (turns_from g n (next (next t))) (next t)) t) ≡ true
          → (goes_on (pick d (turns_from g n (next (next t))) (next t)) ≡ true
          → (g.options.base ≤ (next t).walk.progress.address) × ((next t).walk.progress.address + n + 4 ≤ g.options.base + length g.code))
          → (g.options.base ≤ t.walk.progress.address) × (t.walk.progress.address + suc n + 4 ≤ g.options.base + length g.code)
      go true true e f k more =
          let past = turn-past g t.walk t.maps f in
          let low = (inside t f).0 in
          let far = (more k).1 in
          omega arith
      go true false e f k more = absurd (let z : ◌≡◌ {A = ℕ} 0 1 = cc in omega arith)
      go false d e f k more = absurd (let z : ◌≡◌ {A = ℕ} 0 1 = cc in omega arith)

  -- of any walk, over any maps
  pub has_ended : (t : Turned) → goes_on (turns_from g (suc (length g.code)) t) ≡ false
  has_ended t = go (goes_on (turns_from g (suc (length g.code)) t)) refl
    where
      go : (b : Bool) → goes_on (turns_from g (suc (length g.code)) t) ≡ b → goes_on (turns_from g (suc (length g.code)) t) ≡ false
      go true e = let far = within (length g.code) t e in absurd (omega arith)
      go false e = e

  -- no more turns go on than the code has bytes
  pub going-within : (n : ℕ) (t : Turned) → goes_on (turns_from g n t) ≡ true → n ≤ length g.code
  going-within zero t on = omega arith
  going-within (suc n) t on = let far = within n t on in omega arith

  -- ---- what the turns keep

  abbrev IsSound : Turned → Type 0
  IsSound t = Sound (context_at g t.walk t.maps)

  pub turns-sound : (n : ℕ) (t : Turned) → IsSound t → goes_on (turns_from g n t) ≡ true → IsSound (turns_from g n t)
  unfolding turns_from
  turns-sound zero t p on = p
  turns-sound (suc n) t p on = go (goes_on t) (goes_on (next t)) refl on (turns-sound n (next t))
    where
      go : (b d : Bool) → goes_on (next t) ≡ d → goes_on (pick b (turns_from g n (next t)) t) ≡ true
          → (IsSound (next t) → goes_on (turns_from g n (next t)) ≡ true → IsSound (turns_from g n (next t)))
          → IsSound (pick b (turns_from g n (next t)) t)
      go false d e k more = p
      go true true e k more = more (sound-kept g t.walk t.maps p e) k
      go true false e k more =
          let same = ap goes_on (ended-stays n (next t) e) in
          absurd (let z : ◌≡◌ {A = ℕ} 0 1 = cc in omega arith)

  pub turns_fit : (n : ℕ) (t : Turned) → IsSound t → AllFit g.places (turns_from g n t).maps
  unfolding turns_from
  turns_fit zero t p = p.0
  turns_fit (suc n) t p = go (goes_on t) (goes_on (next t)) refl (turns_fit n (next t))
    where
      go : (b d : Bool) → goes_on (next t) ≡ d → (IsSound (next t) → AllFit g.places (turns_from g n (next t)).maps)
          → AllFit g.places (pick b (turns_from g n (next t)) t).maps
      go false d e more = p.0
      go true true e more = more (sound-kept g t.walk t.maps p e)
      go true false e more = rw (ended-stays n (next t) e) (sound-fits g t.walk t.maps p)
