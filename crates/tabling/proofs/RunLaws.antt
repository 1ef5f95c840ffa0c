-- A whole walk by the places that it is lent; and what an accepted one leaves: lists in order at its counts, and its start as the first
-- instruction.
-- Assumes nothing.
use Rattle.base.proofs.Prelude.{◌∙◌, refl, ◌≡◌, ap, subst, ⊎_elim, true, false, false≢true, Bool, List, ℕ, suc, zero, arith, length, ltb, inl, inr, ◌⊎◌}
use Rattle.std.specs.Prelude.{Option, Some, None, Result, Ok, Err}
use Rattle.arm.specs.Ins.{decode_of}
use Rattle.base.specs.Choice.{pick}
use Rattle.base.specs.Words.{word_from}
use Rattle.base.specs.declared.refusal.Refusal.{Refusal}
use Rattle.base.specs.declared.refusal.Refusal.TheVariants.{NoEpilogue}
use Rattle.context.specs.Context.{Maps, Given, Context, Step, on, goes, ends, refuses}
use Rattle.context.specs.Lists.{Lists, AllHeld, places_of, zeroed, given_by}
use Rattle.context.specs.Turn.{Turned, arm_size, context_at, with_saved, step_of, function_of, ending_at, settled, turn_at, turn, key_or0, no_maps, counts_of}
use Rattle.invariants.specs.Turns.{turns_from}
use Rattle.invariants.proofs.BlockLaws.{ended}
use Rattle.invariants.proofs.EndingLaws.{ended-stays}
use Rattle.invariants.proofs.BytesLaws.{turn-start}
use Rattle.invariants.proofs.KeptLaws.{none-fits, sound-fits, sound-kept, passed-sound, written_held, written-places}
use Rattle.invariants.proofs.SoundLaws.{AllFit, Sound, step_same}
use Rattle.invariants.proofs.TurnLaws.{turn-counts, closed-result}
use Rattle.invariants.proofs.CheckLaws.{number_passed}
use Rattle.invariants.proofs.StepLaws.{same-written}
use Rattle.rows.specs.Map.{first_key, map_in}
use Rattle.stepper.specs.Stepper.{After, is_going, begin, begin_where, check_at, refused}
use Rattle.validity.specs.Validity.{begin_check}
use Rattle.walk.specs.IntoFunction.{begun, start_of, end_address, into_function}
use Rattle.walk.specs.declared.Answer.{Answer}
use Rattle.walk.specs.declared.Answer.TheVariants.{Going, Accepted, Refused}
use Rattle.walk.specs.declared.Counts.{Counts}
use Rattle.walk.specs.declared.Options.{Options}
use Rattle.walk.specs.declared.Record.{Record}
use Rattle.walk.specs.declared.Walk.{Walk}
use Rattle.whole.specs.Whole.{run, on_from}
use Rattle.whole.proofs.WholeLaws.{opened, first-going, first, fresh, fresh-number, last, run-begin, run-whole}

-- ---- by places alone

module _ (o : Options) (code starts : List ℕ) (start : ℕ) (n : Counts) (l k : Lists) (places : places_of l ≡ places_of k) where
  -- the same walk, or the same refusal of its begin
  abbrev pub Same : After → After → Type 0
  Same a b = (a ≡ b) ⊎ ((refusal : Refusal) × (a.answer ≡ refused refusal) × (b.answer ≡ refused refusal))

  pub same-run : Same (run o code starts start n l) (run o code starts start n k)
  unfolding run begin
  same-run = step (begin_check o start (length code) starts)
    where
      step : (b : Result (Unit {0}) Refusal) → Same (on_from o code starts (begin_where start n l b)) (on_from o code starts (begin_where start n k b))
      step (Ok t) = inl (ap (λ (z : Lists). on_from o code starts (record { walk = begun start (counts_of no_maps); lists = z; answer = Going })) (same-written l k places no_maps))
      step (Err refusal) = inr (refusal, refl, refl)

-- ---- what a walk leaves: its start as the first instruction of a record, and maps that fit

abbrev pub HasFirst : ℕ → Answer → Type 0
HasFirst start Going = Unit {0}
HasFirst start (Accepted r) = r.first_instruction ≡ start
HasFirst start (Refused refusal a r) = Unit {0}

into-first : (o : Options) (start last last_pool first_pool saved : ℕ) → HasFirst start (into_function o start last last_pool first_pool saved)
unfolding into_function
into-first o start last last_pool first_pool saved = step (ltb o.module_end (end_address o.known_end last last_pool))
  where
    made : Record
    made = record { start = start_of start first_pool; end = end_address o.known_end last last_pool; first_instruction = start; last_instruction_end = last; saved_registers = saved }

    step : (b : Bool) → HasFirst start (pick b (Refused NoEpilogue 0 0) (Accepted made))
    step true = tt
    step false = refl

going-first : (start : ℕ) (x : Answer) → is_going x ≡ true → HasFirst start x
going-first start Going e = tt
going-first start (Accepted r) e = let z : ◌≡◌ {A = Bool} false true = e in absurd (false≢true z)
going-first start (Refused refusal a r) e = tt

module _ (g : Given) (w : Walk) (m : Maps) where
  abbrev before : Context
  before = context_at g w m

  abbrev here : ℕ
  here = w.progress.address

  settled-first : (word : ℕ) (s : Step) → step_of (decode_of word here) word before ≡ s → HasFirst w.progress.start (settled before s).walk.result
  settled-first word (on x) e = tt
  settled-first word (goes x) e = tt
  settled-first word (ends end x) e =
      let same = ended end x (step_same (decode_of word here) word arm_size (with_saved (decode_of word here) before)) e in
      rw (closed-result (function_of end x) (ending_at before end x), ← same.1)
      (into-first x.given.options x.progress.start end x.progress.last_pool_address (key_or0 (first_key x.maps.pools)) x.progress.saved_registers)
  settled-first word (refuses n k) e = tt

  turn-first : HasFirst w.progress.start (turn g w m).walk.result
  unfolding turn
  turn-first = at (word_from g.code g.options.base here)
    where
      at : (y : Option ℕ) → HasFirst w.progress.start (turn_at y before).walk.result
      at (Some word) = settled-first word (step_of (decode_of word here) word before) refl
      at None = tt

record Left (g : Given) (start : ℕ) (t : Turned) : Type 0 where
  pub first : HasFirst start t.walk.result
  pub fits : AllFit g.places t.maps
  pub counted : t.walk.counts ≡ counts_of t.maps

either-way : (b : Bool) → (b ≡ true) ⊎ (b ≡ false)
either-way true = inl refl
either-way false = inr refl

module _ (g : Given) (n : ℕ) (t : Turned) (sound : Sound (context_at g t.walk t.maps)) where
  abbrev next : Turned
  next = turn g t.walk t.maps

  next-fits : AllFit g.places next.maps
  next-fits = sound-fits g t.walk t.maps sound

  next-counts : next.walk.counts ≡ counts_of next.maps
  next-counts = turn-counts g t.walk t.maps

  next-ended : is_going next.walk.result ≡ false → Left g t.walk.progress.start (turns_from g n next)
  next-ended f =
      let k : Left g t.walk.progress.start next = record { first = turn-first g t.walk t.maps; fits = next-fits; counted = next-counts } in
      rw (ended-stays g n next f) k

  next-on : is_going next.walk.result ≡ true
      → (Sound (context_at g next.walk next.maps) → AllFit g.places next.maps → next.walk.counts ≡ counts_of next.maps → is_going next.walk.result ≡ true
      → Left g next.walk.progress.start (turns_from g n next))
      → Left g t.walk.progress.start (turns_from g n next)
  next-on f more =
      subst (λ (a : ℕ). Left g a (turns_from g n next)) (turn-start g t.walk t.maps) (more (sound-kept g t.walk t.maps sound f) next-fits next-counts f)

  next-left : (Sound (context_at g next.walk next.maps) → AllFit g.places next.maps → next.walk.counts ≡ counts_of next.maps → is_going next.walk.result ≡ true
      → Left g next.walk.progress.start (turns_from g n next))
      → Left g t.walk.progress.start (turns_from g n next)
  next-left more =
      ⊎_elim (λ (f : is_going next.walk.result ≡ true). next-on f more) (λ (f : is_going next.walk.result ≡ false). next-ended f) (either-way (is_going next.walk.result))

turns-left : (g : Given) (n : ℕ) (t : Turned) → Sound (context_at g t.walk t.maps) → AllFit g.places t.maps → t.walk.counts ≡ counts_of t.maps
    → is_going t.walk.result ≡ true → Left g t.walk.progress.start (turns_from g n t)
unfolding turns_from
turns-left g zero t sound fit counted going = record { first = going-first t.walk.progress.start t.walk.result going; fits = fit; counted = counted }
turns-left g (suc n) t sound fit counted going =
    rw going (next-left g n t sound (turns-left g n (turn g t.walk t.maps)))

-- ---- the whole walk

pub record Leaves (start : ℕ) (l : Lists) (a : After) : Type 0 where
  pub first : HasFirst start a.answer
  pub held : AllHeld a.walk.counts a.lists
  pub places : places_of a.lists ≡ places_of l

module _ (o : Options) (code starts : List ℕ) (start : ℕ) (n : Counts) (l : Lists) where
  module _ (on : is_going (opened o start code starts n l).answer ≡ true) where
    number : check_at o code starts (fresh o start code starts n l).walk (fresh o start code starts n l).lists ≡ Ok tt
    number = fresh-number o start code starts n l on

    begins-sound : Sound (context_at (given_by o code starts (zeroed l)) (begun start (counts_of no_maps)) no_maps)
    unfolding begun map_in
    begins-sound = passed-sound o code starts (begun start (counts_of no_maps)) (zeroed l) (number_passed o code starts (begun start (counts_of no_maps)) (zeroed l) number)

    ends-left : Left (given_by o code starts (zeroed l)) start (last o start code starts n l)
    unfolding begun
    ends-left =
        turns-left (given_by o code starts (zeroed l)) (suc (length code)) (first o start code starts n l) begins-sound (none-fits _) refl (first-going o start code starts n l)

    run-leaves : Leaves start l (run o code starts start n l)
    run-leaves =
        let k = ends-left in
        let x = last o start code starts n l in
        rw (run-whole o start code starts n l on) (record {
          first = k.first;
          held = rw k.counted (written_held (zeroed l) x.maps k.fits);
          places = written-places (zeroed l) x.maps k.fits ∙ written-places l no_maps (none-fits (places_of l));
        })

  -- what an accepted walk leaves
  pub accepted-leaves : (r : Record) → (run o code starts start n l).answer ≡ Accepted r → Leaves start l (run o code starts start n l)
  unfolding begin
  accepted-leaves r e = step (is_going (opened o start code starts n l).answer) refl
    where
      step : (b : Bool) → is_going (opened o start code starts n l).answer ≡ b → Leaves start l (run o code starts start n l)
      step true begins = run-leaves begins
      step false off = absurd (never (begin_check o start (length code) starts) (rw (run-begin o start code starts n l off) at e))
        where
          never : (b : Result (Unit {0}) Refusal) → (begin_where start n l b).answer ≡ Accepted r → ⊥
          never (Ok t) f = let z : ◌≡◌ {A = ℕ} 0 1 = cc in omega arith
          never (Err refusal) f = let z : ◌≡◌ {A = ℕ} 0 1 = cc in omega arith
