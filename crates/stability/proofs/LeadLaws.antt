-- Where a turn leads: never back, past a return, and at its end to the record's last instruction end.
-- Assumes nothing.
use Rattle.base.proofs.Prelude.{◌∙◌, sym, refl, ◌≡◌, ap, true, false, Bool, inr, inl, ◌≤◌, ℕ, ◌+◌, arith, ltb}
use Rattle.base.specs.Choice.{pick}
use Rattle.base.specs.declared.refusal.Refusal.TheVariants.{NoEpilogue}
use Rattle.arm.specs.Ins.{decode_of}
use Rattle.std.specs.Prelude.{Option, Some, None}
use Rattle.base.specs.Words.{word_from}
use Rattle.context.specs.Context.{Maps, Given, Context, Step, on, goes, ends, refuses}
use Rattle.context.specs.Turn.{arm_size, context_at, closed, function_of, ending_at, key_or0, settled, with_saved, step_of, turn_at, turn}
use Rattle.predicates.specs.declared.Previous.{Previous}
use Rattle.predicates.specs.Predicates.{is_return}
use Rattle.rows.specs.Map.{first_key}
use Rattle.walk.specs.declared.Answer.{Answer}
use Rattle.walk.specs.declared.Answer.TheVariants.{Going, Accepted, Refused}
use Rattle.walk.specs.declared.Options.{Options}
use Rattle.walk.specs.declared.Record.{Record}
use Rattle.walk.specs.declared.Walk.{Walk}
use Rattle.walk.specs.IntoFunction.{end_address, into_function}
use Rattle.invariants.proofs.BlockLaws.{never_on}
use Rattle.invariants.proofs.ClassLaws.{entry-no-return}
use Rattle.invariants.proofs.MoveLaws.{EndsAt, goes-next, goes-past, ends_at}
use Rattle.invariants.proofs.TurnLaws.{closed-result}
use Rattle.stability.proofs.TurnLaws.{IsCode, Unrefused}

-- an answer that is no record
abbrev NoRecord : Answer → Type 0
NoRecord Going = Unit {0}
NoRecord (Accepted r) = ⊥
NoRecord (Refused n a r) = Unit {0}

pub no_record : {x : Answer} {r : Record} → x ≡ Accepted r → NoRecord x → ⊥
no_record e n = rw e at n

closed-address : (r : Answer) (x : Context) → (closed r x).walk.progress.address ≡ x.progress.address
closed-address Going x = refl
closed-address (Accepted r) x = refl
closed-address (Refused n a r) x = refl

-- the record that a step comes to has its end for last instruction end
abbrev last_of : Answer → ℕ
last_of Going = 0
last_of (Accepted r) = r.last_instruction_end
last_of (Refused n a r) = 0

record-last : (o : Options) (start last last_pool first_pool saved : ℕ) (r : Record)
    → into_function o start last last_pool first_pool saved ≡ Accepted r
    → last ≡ r.last_instruction_end
unfolding into_function
record-last o start last last_pool first_pool saved r e = step (ltb o.module_end (end_address o.known_end last last_pool)) _ refl e
  where
    step : (b : Bool) (x : Answer) → last ≡ last_of x → pick b (Refused NoEpilogue 0 0) x ≡ Accepted r → last ≡ r.last_instruction_end
    step true x f h = absurd (no_record h tt)
    step false x f h = f ∙ ap last_of h

module _ (g : Given) (w : Walk) (m : Maps) where
  abbrev a : ℕ
  a = w.progress.address

  abbrev before : Context
  before = context_at g w m

  abbrev step_at : ℕ → Step
  step_at word = step_of (decode_of word a) word before

  -- what handle_ins gets
  abbrev ready : ℕ → Context
  ready word = with_saved (decode_of word a) before

  -- never back
  settled-rises : (word : ℕ) (s : Step) → step_at word ≡ s → a ≤ (settled before s).walk.progress.address
  settled-rises word (on x) e = absurd (never_on (decode_of word a) word arm_size (ready word) x e)
  settled-rises word (goes x) e = let past = goes-past (decode_of word a) word arm_size (ready word) x (omega arith) e in omega arith
  settled-rises word (ends end x) e =
      rw (closed-address (function_of end x) (ending_at before end x)) (above (ends_at (decode_of word a) word arm_size (ready word) end x (omega arith) e))
    where
      above : EndsAt (decode_of word a) arm_size a end → a ≤ end
      above (inl h) = omega arith
      above (inr h) = omega (arith, h.0)
  settled-rises word (refuses n r) e = omega arith

  pub turn-rises : w.progress.address ≤ (turn g w m).walk.progress.address
  unfolding turn
  turn-rises = at (word_from g.code g.options.base a)
    where
      at : (y : Option ℕ) → a ≤ (turn_at y before).walk.progress.address
      at (Some word) = settled-rises word (step_at word) refl
      at None = omega arith

  -- a return is no entry, so it leads past itself
  settled-return : (word : ℕ) → IsCode a m → (p : Previous) → is_return a (decode_of word a) p ≡ true
      → (s : Step) → step_at word ≡ s → Unrefused (settled before s).walk.result → a + arm_size ≤ (settled before s).walk.progress.address
  settled-return word code p returns (on x) e k = absurd (never_on (decode_of word a) word arm_size (ready word) x e)
  settled-return word code p returns (goes x) e k = goes-next (decode_of word a) word arm_size (ready word) x code.pools code.tables e
  settled-return word code p returns (ends end x) e k =
      rw (closed-address (function_of end x) (ending_at before end x)) (past (ends_at (decode_of word a) word arm_size (ready word) end x (omega arith) e))
    where
      past : EndsAt (decode_of word a) arm_size a end → a + arm_size ≤ end
      past (inl h) = omega arith
      past (inr h) =
          let never = entry-no-return a (decode_of word a) p h.1 in
          absurd (let z : ◌≡◌ {A = ℕ} 0 1 = cc in omega arith)
  settled-return word code p returns (refuses n r) e k = absurd k

  pub turn-return : (word : ℕ) → word_from g.code g.options.base w.progress.address ≡ Some word → IsCode w.progress.address m
      → (p : Previous) → is_return w.progress.address (decode_of word w.progress.address) p ≡ true
      → Unrefused (turn g w m).walk.result → w.progress.address + arm_size ≤ (turn g w m).walk.progress.address
  unfolding turn
  turn-return word found code p returns kept = rw found (settled-return word code p returns (step_at word) refl (rw found at kept))

  -- a walk ends where its last instruction does
  settled-ends : (r : Record) (s : Step) → (settled before s).walk.result ≡ Accepted r
      → (settled before s).walk.progress.address ≡ r.last_instruction_end
  settled-ends r (on x) e = absurd (no_record e tt)
  settled-ends r (goes x) e = absurd (no_record e tt)
  settled-ends r (ends end x) e =
      closed-address (function_of end x) (ending_at before end x)
      ∙ record-last x.given.options x.progress.start end x.progress.last_pool_address (key_or0 (first_key x.maps.pools)) x.progress.saved_registers r
      (sym (closed-result (function_of end x) (ending_at before end x)) ∙ e)
  settled-ends r (refuses n k) e = absurd (no_record e tt)

  pub turn-ends : (r : Record) → (turn g w m).walk.result ≡ Accepted r → (turn g w m).walk.progress.address ≡ r.last_instruction_end
  unfolding turn
  turn-ends r e = at (word_from g.code g.options.base a) e
    where
      at : (y : Option ℕ) → (turn_at y before).walk.result ≡ Accepted r → (turn_at y before).walk.progress.address ≡ r.last_instruction_end
      at (Some word) h = settled-ends r (step_at word) h
      at None h = absurd (no_record h tt)

  -- a turn that is not refused has found a word
  pub turn-found : Unrefused (turn g w m).walk.result → (word_from g.code g.options.base w.progress.address ≡ None → ⊥)
  unfolding turn
  turn-found kept e = rw e at kept
