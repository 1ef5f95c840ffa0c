-- What a whole walk comes to: it never goes on; a refusal has a number from 1 to 14; 1 to 4 change nothing, and 5 to 14 leave no entries and zeros.
-- Assumes nothing.
use Rattle.base.proofs.Prelude.{refl, ◌≡◌, subst⁻¹, false, true, Bool, List, ◌≤◌, ℕ, suc, zero, arith, ltb, leb, length, le-leb, lt-leb}
use Rattle.base.proofs.Prelude.{leb-true}
use Rattle.std.specs.Prelude.{Result, Ok, Err}
use Rattle.base.specs.declared.refusal.Refusal.{Refusal}
use Rattle.base.specs.Refusals.{refusal_no, is_named}
use Rattle.arm.specs.Ins.{decode_of}
use Rattle.std.specs.Prelude.{Option, Some, None}
use Rattle.base.specs.Choice.{pick}
use Rattle.base.specs.declared.refusal.Refusal.TheVariants.{NoEpilogue}
use Rattle.base.specs.Words.{word_from}
use Rattle.context.specs.Context.{Maps, Given, Context, Step}
use Rattle.context.specs.Lists.{Lists, zeroed, places_of, given_by}
use Rattle.context.specs.Turn.{Turned, no_maps, counts_of, context_at, closed, ending_at, settled, with_saved, turn_at, turn, arm_size}
use Rattle.invariants.specs.Turns.{turns_from}
use Rattle.base.proofs.ChoiceLaws.{both_true}
use Rattle.invariants.proofs.KeptLaws.{none-fits, written-places}
use Rattle.invariants.proofs.StepLaws.{same-written}
use Rattle.stepper.specs.Stepper.{is_going, begin, begin_where, turned}
use Rattle.validity.specs.Validity.{begin_check}
use Rattle.validity.proofs.EarlyLaws.{IsEarly, begin-early}
use Rattle.walk.specs.declared.Answer.{Answer}
use Rattle.walk.specs.declared.Answer.TheVariants.{Going, Accepted, Refused}
use Rattle.walk.specs.declared.Counts.{Counts}
use Rattle.walk.specs.declared.Options.{Options}
use Rattle.walk.specs.declared.Record.{Record}
use Rattle.walk.specs.declared.Walk.{Walk}
use Rattle.walk.specs.IntoFunction.{begun, into_function, end_address}
use Rattle.ended.specs.Ended.{EndedBy, Ended}
use Rattle.ended.proofs.RefusalLaws.{Late, is-on, has-gone, has_ended, is-refused, step-late}
use Rattle.whole.specs.Whole.{run}
use Rattle.whole.proofs.WholeLaws.{opened, first, last, last-ended, run-whole, run-begin}

-- ---- a turn

-- a refusal that ends the walk, and leaves no entries
pub record Emptied (refusal : Refusal) (t : Turned) : Type 0 where
  pub named : is_named refusal ≡ true
  least : 5 ≤ refusal_no refusal
  most : refusal_no refusal ≤ 14
  counted : t.walk.counts ≡ counts_of no_maps
  maps : t.maps ≡ no_maps

abbrev pub Over : Answer → Turned → Type 0
Over Going t = Unit {0}
Over (Accepted r) t = Unit {0}
Over (Refused refusal address register) t = Emptied refusal t

abbrev pub IsOver : Turned → Type 0
IsOver t = Over t.walk.result t

-- into_function
function-over : (b : Bool) (r : Record) (c : Context) → IsOver (closed (pick b (Refused NoEpilogue 0 0) (Accepted r)) c)
function-over true r c = record { named = refl; least = omega arith; most = omega arith; counted = refl; maps = refl }
function-over false r c = tt

module _ (before : Context) where
  settled-over : {s : Step} → Late s → IsOver (settled before s)
  unfolding into_function
  settled-over is-on = tt
  settled-over has-gone = tt
  settled-over (has_ended {a = end} {c = c}) =
      let o = c.given.options in
      function-over (ltb o.module_end (end_address o.known_end end c.progress.last_pool_address)) _ (ending_at before end c)
  settled-over (is-refused n l) =
      let late = both_true (is_named n) _ l in
      let range = both_true (leb 5 (refusal_no n)) _ late.1 in
      record { named = late.0; least = leb-true _ _ range.0; most = omega (arith, leb-true (refusal_no n) 13 range.1); counted = refl; maps = refl }

  word_over : (x : Option ℕ) → IsOver (turn_at x before)
  word_over (Some word) =
      let i = decode_of word before.progress.address in
      settled-over (step-late i word arm_size (with_saved i before))
  word_over None = record { named = refl; least = omega arith; most = omega arith; counted = refl; maps = refl }

module _ (g : Given) where
  pub turn-over : (w : Walk) (m : Maps) → IsOver (turn g w m)
  unfolding turn
  turn-over w m = word_over (context_at g w m) (word_from g.code g.options.base w.progress.address)

  turns-over : (n : ℕ) (t : Turned) → IsOver t → IsOver (turns_from g n t)
  unfolding turns_from
  turns-over zero t h = h
  turns-over (suc n) t h = step (is_going t.walk.result) (turns-over n (turn g t.walk t.maps) (turn-over t.walk t.maps))
    where
      step : (b : Bool) → IsOver (turns_from g n (turn g t.walk t.maps)) → IsOver (pick b (turns_from g n (turn g t.walk t.maps)) t)
      step true next = next
      step false next = h

-- ---- the whole walk

zeros-again : (l : Lists) → zeroed (zeroed l) ≡ zeroed l
zeros-again l = same-written (zeroed l) l (written-places l no_maps (none-fits (places_of l))) no_maps

module _ (o : Options) (start : ℕ) (code starts : List ℕ) (n : Counts) (l : Lists) where
  -- a begin that is refused
  begin-ended : is_going (opened o start code starts n l).answer ≡ false → Ended n l (opened o start code starts n l)
  unfolding begin begun
  begin-ended = step (begin_check o start (length code) starts) (begin-early o start (length code) starts)
    where
      step : (b : Result (Unit {0}) Refusal) → IsEarly b → is_going (begin_where start n l b).answer ≡ false → Ended n l (begin_where start n l b)
      step (Ok t) e off = let z : ◌≡◌ {A = ℕ} 0 1 = cc in omega arith
      step (Err refusal) e off =
          let early = le-leb (refusal_no refusal) 4 e.2 in
          record { least = e.1; most = omega (arith, e.2); counted = rw early; holds = rw early }

  -- one that went on
  abbrev end : Turned
  end = last o start code starts n l

  first-over : IsOver (first o start code starts n l)
  unfolding begun
  first-over = tt

  whole-ended : Ended n l (turned (zeroed l) end)
  whole-ended =
      step end.walk.result refl (turns-over (given_by o code starts (zeroed l)) (suc (length code)) (first o start code starts n l) first-over)
    where
      step : (a : Answer) → end.walk.result ≡ a → Over a end → EndedBy n l (turned (zeroed l) end) a
      step Going e h = let off = last-ended o start code starts n l in let z : ◌≡◌ {A = ℕ} 0 1 = cc in omega arith
      step (Accepted r) e h = tt
      step (Refused k address register) e h =
          let late = lt-leb (refusal_no k) 4 (omega (arith, h.least)) in
          record { least = omega (arith, h.least); most = h.most; counted = rw late h.counted; holds = rw (late, h.maps) (zeros-again l) }

  pub ended : Ended n l (run o code starts start n l)
  ended = step (is_going (opened o start code starts n l).answer) refl
    where
      step : (b : Bool) → is_going (opened o start code starts n l).answer ≡ b → Ended n l (run o code starts start n l)
      step true e = subst⁻¹ (Ended n l) (run-whole o start code starts n l e) whole-ended
      step false e = subst⁻¹ (Ended n l) (run-begin o start code starts n l e) (begin-ended e)
