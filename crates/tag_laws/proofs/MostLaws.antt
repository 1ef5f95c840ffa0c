-- Where no end is known, a record holds its instruction bytes, so a tag is at most 100.
-- Assumes nothing.
use Rattle.base.proofs.Prelude.{◌∙◌, sym, refl, ◌≡◌, true, false, Bool, ◌≤◌, ℕ, ◌+◌, ◌-◌, suc, zero, max, arith, eqb, ltb, length, ltb-true}
use Rattle.std.proofs.Math.Nat.{div-le_of_le-mul, mul-le-mul_right}
use Rattle.base.specs.Choice.{pick}
use Rattle.std.specs.Prelude.{Option, Some, None}
use Rattle.base.specs.declared.refusal.Refusal.TheVariants.{NoEpilogue}
use Rattle.arm.specs.Ins.{decode_of}
use Rattle.base.specs.Words.{word_from}
use Rattle.context.specs.Context.{Maps, Given, Context, Step, on, goes, ends, refuses}
use Rattle.context.specs.Turn.{Turned, arm_size, context_at, function_of, ending_at, settled, step_of, with_saved, turn_at, turn}
use Rattle.invariants.specs.Turns.{turns_from}
use Rattle.invariants.proofs.BlockLaws.{ended}
use Rattle.invariants.proofs.EndingLaws.{ended-stays}
use Rattle.invariants.proofs.BytesLaws.{turn-start}
use Rattle.invariants.proofs.SoundLaws.{step_same}
use Rattle.invariants.proofs.TurnLaws.{closed-result}
use Rattle.stability.proofs.LeadLaws.{no_record}
use Rattle.stepper.specs.Stepper.{is_going}
use Rattle.tag_laws.specs.Claims.{AtMost100}
use Rattle.tag_laws.proofs.ExactLaws.{tag-parts}
use Rattle.tag_laws.proofs.WithinLaws.{within, last-is, given}
use Rattle.walk.specs.declared.Answer.TheVariants.{Accepted, Refused}
use Rattle.walk.specs.declared.Options.{Options}
use Rattle.walk.specs.declared.Record.{Record}
use Rattle.walk.specs.declared.Walk.{Walk}
use Rattle.walk.specs.IntoFunction.{begun, end_address, start_of, into_function}
use Rattle.whole.proofs.WholeLaws.{first, first-going}

-- a record that begins at or below the start and, where no end is known, ends at or behind its last instruction
pub record Holds (k : Option ℕ) (start : ℕ) (r : Record) : Type 0 where
  pub low : r.start ≤ start
  pub high : k ≡ None → r.last_instruction_end ≤ r.end

start-low : (start pool : ℕ) → start_of start pool ≤ start
unfolding start_of
start-low start pool = step (eqb pool 0) (ltb pool start) refl
  where
    step : (b t : Bool) → ltb pool start ≡ t → pick b start (pick t pool start) ≤ start
    step true t e = omega arith
    step false true e = let below = ltb-true pool start e in omega arith
    step false false e = omega arith

end-high : (k : Option ℕ) (last pool : ℕ) → k ≡ None → last ≤ end_address k last pool
end-high None last pool e = step (eqb pool 0)
  where
    step : (b : Bool) → last ≤ pick b last (max last (pool + 4))
    step true = omega arith
    step false = omega arith
end-high (Some end) last pool e = absurd (let z : ◌≡◌ {A = ℕ} 0 1 = cc in omega arith)

module _ (o : Options) (start last last_pool first_pool saved : ℕ) (r : Record) where
  abbrev end : ℕ
  end = end_address o.known_end last last_pool

  abbrev made : Record
  made = record {
    start = start_of start first_pool;
    end = end;
    first_instruction = start;
    last_instruction_end = last;
    saved_registers = saved;
  }

  record-holds : into_function o start last last_pool first_pool saved ≡ Accepted r → Holds o.known_end start r
  unfolding into_function
  record-holds e = step (ltb o.module_end end) e
    where
      step : (b : Bool) → pick b (Refused NoEpilogue 0 0) (Accepted made) ≡ Accepted r → Holds o.known_end start r
      step true k = absurd (no_record k tt)
      step false k =
          let same : made ≡ r = cc in
          rw (← same) (record { low = start-low start first_pool; high = end-high o.known_end last last_pool })

module _ (g : Given) (w : Walk) (m : Maps) (r : Record) where
  abbrev a : ℕ
  a = w.progress.address

  abbrev before : Context
  before = context_at g w m

  settled-holds : (word : ℕ) (s : Step) → step_of (decode_of word a) word before ≡ s → (settled before s).walk.result ≡ Accepted r
      → Holds g.options.known_end w.progress.start r
  settled-holds word (on x) e f = absurd (no_record f tt)
  settled-holds word (goes x) e f = absurd (no_record f tt)
  settled-holds word (ends end x) e f =
      let i = decode_of word a in
      let same = ended end x (step_same i word arm_size (with_saved i before)) e in
      rw (← same.0, ← same.1)
      (record-holds x.given.options x.progress.start end x.progress.last_pool_address _ x.progress.saved_registers r
      (sym (closed-result (function_of end x) (ending_at before end x)) ∙ f))
  settled-holds word (refuses n k) e f = absurd (no_record f tt)

  turn-holds : (turn g w m).walk.result ≡ Accepted r → Holds g.options.known_end w.progress.start r
  unfolding turn
  turn-holds e = at (word_from g.code g.options.base a) e
    where
      at : (y : Option ℕ) → (turn_at y before).walk.result ≡ Accepted r → Holds g.options.known_end w.progress.start r
      at (Some word) h = settled-holds word (step_of (decode_of word a) word before) refl h
      at None h = absurd (no_record h tt)

module _ (g : Given) (r : Record) where
  turns-hold : (n : ℕ) (t : Turned) → is_going t.walk.result ≡ true → (turns_from g n t).walk.result ≡ Accepted r
      → Holds g.options.known_end t.walk.progress.start r
  unfolding turns_from
  turns-hold zero t going e = absurd (let f = rw e at going in let z : ◌≡◌ {A = ℕ} 0 1 = cc in omega arith)
  turns-hold (suc n) t going e = go (is_going next.walk.result) refl (turns-hold n next) (rw going at e)
    where
      next : Turned
      next = turn g t.walk t.maps

      go : (b : Bool) → is_going next.walk.result ≡ b
          → (is_going next.walk.result ≡ true → (turns_from g n next).walk.result ≡ Accepted r → Holds g.options.known_end next.walk.progress.start r)
          → (turns_from g n next).walk.result ≡ Accepted r → Holds g.options.known_end t.walk.progress.start r
      go true f more h = rw (turn-start g t.walk t.maps) at (more f h)
      go false f more h = turn-holds g t.walk t.maps r (rw (ended-stays g n next f) at h)

pub at_most-100 : AtMost100
unfolding begun
at_most-100 o start code starts n l r q m unknown e is =
    let parts = tag-parts r _ q m is in
    let bytes = within o start code starts n l r e in
    let holds = turns-hold (given o start code starts n l r e) r (suc (length code)) (first o start code starts n l) (first-going o start code starts n l) (last-is o start code starts n l r e) in
    let low = holds.low in
    let high = holds.high unknown in
    rw (← parts.1) (div-le_of_le-mul (r.end - r.start) (mul-le-mul_right 100 (omega arith)))
