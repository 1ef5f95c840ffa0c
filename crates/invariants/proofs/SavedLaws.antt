-- What a record tells of its first instruction: that it stands at the requested start, and how many registers the word there saves.
-- Assumes nothing.
use Rattle.base.proofs.Prelude.{◌∙◌, sym, refl, ◌≡◌, ap, true, false, Bool, List, inr, inl, ◌⊎◌, ◌≤◌, ℕ, ◌<◌, ◌^◌, ◌/◌, ◌%◌, suc, zero, arith, ltb, eq-eqb, ne_eqb}
use Rattle.base.specs.declared.refusal.Refusal.TheVariants.{NoEpilogue}
use Rattle.arm.specs.Ins.{decode_of}
use Rattle.std.specs.Prelude.{Option, Some, None}
use Rattle.base.specs.Choice.{pick}
use Rattle.base.specs.Words.{word_from}
use Rattle.context.specs.Blocks.{saved_by_word, saved_at}
use Rattle.context.specs.Context.{Maps, Given, Context, Step, on, goes, ends, refuses}
use Rattle.context.specs.Turn.{Turned, arm_size, context_at, function_of, ending_at, saved_first, with_saved, step_of, settled, turn_at, turn}
use Rattle.arm.specs.Naming.{class_of, is_of_one, regs_of}
use Rattle.std.proofs.Math.Pow.{pow-lt}
use Rattle.predicates.proofs.SavedLaws.{saved-most as most}
use Rattle.stepper.specs.Stepper.{is_going}
use Rattle.walk.specs.declared.Answer.{Answer}
use Rattle.walk.specs.declared.Answer.TheVariants.{Going, Accepted, Refused}
use Rattle.walk.specs.declared.Options.{Options}
use Rattle.walk.specs.declared.Record.{Record}
use Rattle.walk.specs.declared.Walk.{Walk}
use Rattle.walk.specs.IntoFunction.{into_function, end_address}
use Rattle.invariants.specs.Saved.{Tells}
use Rattle.invariants.specs.Turns.{turns_from}
use Rattle.invariants.proofs.BlockLaws.{gone, ended}
use Rattle.invariants.proofs.EndingLaws.{ended-stays}
use Rattle.invariants.proofs.SoundLaws.{step_same}
use Rattle.invariants.proofs.TurnLaws.{turn-onward, turn-past, closed-result}

-- an answer that is no record
abbrev NoRecord : Answer → Type 0
NoRecord Going = Unit {0}
NoRecord (Accepted r) = ⊥
NoRecord (Refused n a r) = Unit {0}

no_record : {x : Answer} {r : Record} → x ≡ Accepted r → NoRecord x → ⊥
no_record e n = rw e at n

abbrev first_of : Answer → ℕ
first_of Going = 0
first_of (Accepted r) = r.first_instruction
first_of (Refused n a r) = 0

abbrev saved_of : Answer → ℕ
saved_of Going = 0
saved_of (Accepted r) = r.saved_registers
saved_of (Refused n a r) = 0

record-tells : (o : Options) (start last last_pool first_pool saved : ℕ) (r : Record)
    → into_function o start last last_pool first_pool saved ≡ Accepted r → Tells start saved r
unfolding into_function
record-tells o start last last_pool first_pool saved r e = step (ltb o.module_end (end_address o.known_end last last_pool)) _ refl refl e
  where
    step : (b : Bool) (x : Answer) → first_of x ≡ start → saved_of x ≡ saved → pick b (Refused NoEpilogue 0 0) x ≡ Accepted r → Tells start saved r
    step true x f k h = absurd (no_record h tt)
    step false x f k h = record { first = sym (ap first_of h) ∙ f; saves = sym (ap saved_of h) ∙ k }

-- ---- no instruction saves more registers than there are

regs-fit : (w a : ℕ) → (decode_of w a).regs < 2 ^ 16
unfolding decode_of regs_of
regs-fit w a = step (is_of_one (class_of w) w)
  where
    step : (b : Bool) → elim b as (λ _. ℕ) [ true ↦ 2 ^ (w / 0x1000 % 16) | false ↦ w % 2 ^ 16 ] < 2 ^ 16
    step true = let r : w / 0x1000 % 16 < 16 = omega arith in pow-lt r
    step false = omega arith

pub saved-most : (code : List ℕ) (base a : ℕ) → saved_at code base a ≤ 16
unfolding saved_at
saved-most code base a = step (word_from code base a)
  where
    step : (y : Option ℕ) → saved_by_word y a ≤ 16
    step (Some word) = most (decode_of word a) (regs-fit word a)
    step None = omega arith

-- ---- what a walk knows of its first instruction

module _ (g : Given) (start : ℕ) where
  abbrev saved : ℕ
  saved = saved_at g.code g.options.base start

  -- the walk stands at its start, or past it with what its first instruction saves
  pub record Knows (w : Walk) : Type 0 where
    pub starts : w.progress.start ≡ start
    pub knows : (w.progress.address ≡ start) ⊎ ((start < w.progress.address) × (w.progress.saved_registers ≡ saved_at g.code g.options.base start))

  module _ (w : Walk) (m : Maps) (k : Knows w) where
    abbrev a : ℕ
    a = w.progress.address

    abbrev before : Context
    before = context_at g w m

    -- a word that is found
    first-saved : (word : ℕ) → word_from g.code g.options.base a ≡ Some word → saved_first (decode_of word a) w.progress ≡ saved
    unfolding saved_at
    first-saved word found = go k.knows
      where
        go : (a ≡ start) ⊎ ((start < a) × (w.progress.saved_registers ≡ saved)) → saved_first (decode_of word a) w.progress ≡ saved
        go (inl at) =
            rw (eq-eqb a w.progress.start (at ∙ sym k.starts))
            (ap (λ (y : Option ℕ). saved_by_word y a) (sym found) ∙ ap (λ (x : ℕ). saved_at g.code g.options.base x) at)
        go (inr past) =
            let start : w.progress.start ≡ start = k.starts in
            let far = past.0 in
            rw (ne_eqb a w.progress.start (λ e. omega arith)) past.1

    pub turn-knows : is_going (turn g w m).walk.result ≡ true → Knows (turn g w m).walk
    turn-knows h =
        let t = turn-onward g w m h in
        let i = decode_of t.word a in
        let same = gone t.to (step_same i t.word arm_size (with_saved i before)) t.step in
        let past = turn-past g w m h in
        rw t.is (record { starts = same.1 ∙ k.starts; knows = inr (far k.knows (rw t.is at past), same.2 ∙ first-saved t.word t.found) })
      where
        far : {x : ℕ} → (a ≡ start) ⊎ ((start < a) × (w.progress.saved_registers ≡ saved)) → a < x → start < x
        far (inl at) p = omega arith
        far (inr past) p = omega (arith, past.0)

    settled-tells : (r : Record) (word : ℕ) → word_from g.code g.options.base a ≡ Some word → (s : Step) → step_of (decode_of word a) word before ≡ s
        → (settled before s).walk.result ≡ Accepted r → Tells start saved r
    settled-tells r word found (on x) e h = absurd (no_record h tt)
    settled-tells r word found (goes x) e h = absurd (no_record h tt)
    settled-tells r word found (ends end x) e h =
        let i = decode_of word a in
        let same = ended end x (step_same i word arm_size (with_saved i before)) e in
        let is = record-tells x.given.options x.progress.start end x.progress.last_pool_address _ x.progress.saved_registers r (sym (closed-result (function_of end x) (ending_at before end x)) ∙ h) in
        record { first = is.first ∙ same.1 ∙ k.starts; saves = is.saves ∙ same.2 ∙ first-saved word found }
    settled-tells r word found (refuses n q) e h = absurd (no_record h tt)

    pub turn-tells : (r : Record) → (turn g w m).walk.result ≡ Accepted r → Tells start (saved_at g.code g.options.base start) r
    unfolding turn
    turn-tells r h = at (word_from g.code g.options.base a) refl h
      where
        at : (y : Option ℕ) → word_from g.code g.options.base a ≡ y → (turn_at y before).walk.result ≡ Accepted r → Tells start saved r
        at (Some word) found h = settled-tells r word found (step_of (decode_of word a) word before) refl h
        at None found h = absurd (no_record h tt)

  -- ---- so any turns from there

  pub turns-tell : (n : ℕ) (t : Turned) (r : Record) → is_going t.walk.result ≡ true → Knows t.walk → (turns_from g n t).walk.result ≡ Accepted r
      → Tells start (saved_at g.code g.options.base start) r
  unfolding turns_from
  turns-tell zero t r h k e = absurd (no_record e (none t.walk.result h))
    where
      none : (x : Answer) → is_going x ≡ true → NoRecord x
      none Going f = tt
      none (Accepted q) f = let z : ◌≡◌ {A = ℕ} 0 1 = cc in omega arith
      none (Refused refusal address register) f = tt
  turns-tell (suc n) t r h k e =
      step (is_going (turn g t.walk t.maps).walk.result) refl (turns-tell n (turn g t.walk t.maps) r) (rw h at e)
    where
      next : Turned
      next = turn g t.walk t.maps

      step : (b : Bool) → is_going next.walk.result ≡ b
          → (is_going next.walk.result ≡ true → Knows next.walk → (turns_from g n next).walk.result ≡ Accepted r → Tells start saved r)
          → (turns_from g n next).walk.result ≡ Accepted r → Tells start saved r
      step true f more q = more f (turn-knows t.walk t.maps k f) q
      step false f more q = turn-tells t.walk t.maps k r (ap (λ (x : Turned). x.walk.result) (sym (ended-stays g n next f)) ∙ q)
