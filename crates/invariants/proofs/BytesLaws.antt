-- The sum in the walk's state: a turn adds its instruction bytes, and so does a step, refused ones included; and from the requested start on, the
-- sum never passes the walk's address.
-- Assumes nothing.
use Rattle.base.proofs.Prelude.{◌∙◌, refl, ◌≡◌, true, false, Bool, List, inl, inr, Option, none, some, ◌≤◌, ℕ, ◌+◌, suc, zero, arith, eqb, ltb, eq-eqb, ne_eqb}
use Rattle.base.specs.Choice.{pick, either}
use Rattle.arm.specs.declared.Ins.{Ins}
use Rattle.arm.specs.Ins.{decode_of}
use Rattle.std.specs.Prelude.{Option as Optional, Some, None, Result, Ok, Err}
use Rattle.base.specs.declared.refusal.Refusal.{Refusal}
use Rattle.base.specs.Words.{word_from}
use Rattle.context.specs.Blocks.{inline_table_at, table_end_at, skip_pool, skip_inline_table, to_return, handle_ins_inner, handle_ins}
use Rattle.context.specs.Context.{Maps, Given, Context, Step, on, goes, ends, refuses, ◌▸◌, going_to, with_progress, counting, moving}
use Rattle.context.specs.Lists.{Lists, maps_in, given_by}
use Rattle.context.specs.Turn.{Turned, arm_size, context_at, closed, function_of, bytes_to_end, with_saved, step_of, settled, turn_at, turn}
use Rattle.rows.specs.Map.{stands-in}
use Rattle.stepper.specs.Stepper.{After, is_going, check_at, step, step_where, unchanged}
use Rattle.walk.specs.declared.Answer.{Answer}
use Rattle.walk.specs.declared.Answer.TheVariants.{Going, Accepted, Refused}
use Rattle.walk.specs.declared.Options.{Options}
use Rattle.walk.specs.declared.Walk.{Walk}
use Rattle.invariants.specs.Bytes.{is_some, is_data, bytes_at, bytes_by, bytes_to, step_bytes, bytes_from}
use Rattle.invariants.specs.Turns.{steps_from}
use Rattle.invariants.proofs.BlockLaws.{Meets, has-gone, is-refused, Kept, Skips, pool, table, handle_ins-kept, passed-kept, chained, chosen, never_on, gone, ended}
use Rattle.invariants.proofs.MoveLaws.{EndsAt, goes-next, goes-past, ends_at}
use Rattle.invariants.proofs.SoundLaws.{step_same}
use Rattle.invariants.proofs.TurnLaws.{function-ends}

-- ---- data, and what is none

-- what does not lie in data is neither a pool nor in a table
no-data : (a : ℕ) (pools tables : List (List ℕ)) → is_data a pools tables ≡ false
    → (stands-in pools a ≡ false) × (inline_table_at a tables ≡ none)
unfolding is_data
no-data a pools tables e = step (stands-in pools a) (inline_table_at a tables) e
  where
    step : (s : Bool) (t : Option (List ℕ)) → either s (is_some t) ≡ false → (s ≡ false) × (t ≡ none)
    step true t f = absurd (let z : ◌≡◌ {A = ℕ} 0 1 = cc in omega arith)
    step false none f = (refl, refl)
    step false (some r) f = absurd (let z : ◌≡◌ {A = ℕ} 0 1 = cc in omega arith)

module _ (i : Ins) (word size : ℕ) (c : Context) where
  abbrev b : ℕ
  b = c.progress.instruction_bytes

  abbrev Skipped : Step → Type 0
  Skipped s = Meets (λ _. ⊥) (λ d. d.progress.instruction_bytes ≡ c.progress.instruction_bytes) (λ e d. ⊥) s

  abbrev at_next : Context
  at_next = going_to (c.progress.address + size) c

  skips-data : is_data c.progress.address c.maps.pools c.maps.inline_tables ≡ true → Skipped (skip_pool at_next ▸ skip_inline_table)
  unfolding skip_pool skip_inline_table is_data
  skips-data e = step (stands-in c.maps.pools c.progress.address) (inline_table_at c.progress.address c.maps.inline_tables) refl e
    where
      step : (s : Bool) (t : Option (List ℕ)) → inline_table_at c.progress.address c.maps.inline_tables ≡ t → either s (is_some t) ≡ true
          → Skipped (pick s (goes (going_to (c.progress.address + 4) at_next)) (on at_next) ▸ skip_inline_table)
      step true t h k = has-gone refl
      step false (some t) h k = rw h (chosen (ltb (table_end_at t) 0x1_0000_0000) (λ _. has-gone refl) (λ _. is-refused))
      step false none h k = absurd (let z : ◌≡◌ {A = ℕ} 0 1 = cc in omega arith)

  -- nothing else of the step runs
  stops : {s : Step} (f : Context → Step) → Skipped s → Skipped (s ▸ f)
  stops f m = chained m (λ d p. absurd p)

  -- data is skipped, and adds none
  data-skips : is_data c.progress.address c.maps.pools c.maps.inline_tables ≡ true → Skipped (handle_ins i word size c)
  unfolding handle_ins handle_ins_inner to_return
  data-skips e =
      passed-kept i (b + size) (λ _. ⊥) (λ d. d.progress.instruction_bytes ≡ b) (λ e d. ⊥) (λ d p. absurd p)
      (stops _ (stops _ (stops _ (stops _ (stops _ (stops _ (skips-data e)))))))

  any-kept : Kept i size (λ d. Unit {0}) (λ e d. Unit {0})
  any-kept = record {
    machines = λ m c n p. tt;
    raises = λ d c p. tt;
    tables = λ d c p. tt;
    defines = λ d c p. tt;
    forgets = λ c p. tt;
    marks = λ x c p. tt;
    labels = λ r c w f p. tt;
    jump_tables = λ r c w f p. tt;
    inline_tables = λ r c w f p. tt;
    calls = λ r c w f p. tt;
    loads = λ x v c w f p. tt;
    ends = λ c p. tt;
    entry = λ e c p. tt;
  }

  -- an instruction that the walk goes on behind adds its size
  goes-counted : (d : Context) → is_data c.progress.address c.maps.pools c.maps.inline_tables ≡ false → handle_ins i word size c ≡ goes d
      → d.progress.instruction_bytes ≡ c.progress.instruction_bytes + size
  goes-counted d e k =
      let code = no-data c.progress.address c.maps.pools c.maps.inline_tables e in
      gone d
      (handle_ins-kept i size (λ x. Unit {0}) (λ x. x.progress.instruction_bytes ≡ b + size) (λ e x. Unit {0}) any-kept (λ n x h p. tt) word c tt
      (λ x p. refl) (none-skip code.0 code.1))
      k
    where
      none-skip : stands-in c.maps.pools c.progress.address ≡ false → inline_table_at c.progress.address c.maps.inline_tables ≡ none
          → (n : ℕ) → Skips c n → b ≡ b + size
      none-skip f h n (pool e) = absurd (let z : ◌≡◌ {A = ℕ} 0 1 = cc in omega arith)
      none-skip f h n (table t e) = absurd (let z : ◌≡◌ {A = ℕ} 0 1 = cc in omega arith)

-- ---- a turn

none-by : (skips : Bool) → bytes_by skips 0 ≡ 0
none-by true = refl
none-by false = refl

-- one that leaves the walk where it was has none
none-at : (x : Answer) → bytes_at x true ≡ 0
none-at Going = refl
none-at (Accepted r) = refl
none-at (Refused refusal a r) = refl

module _ (g : Given) (w : Walk) (m : Maps) where
  abbrev a : ℕ
  a = w.progress.address

  abbrev sum : ℕ
  sum = w.progress.instruction_bytes

  abbrev before : Context
  before = context_at g w m

  abbrev data_here : Bool
  data_here = is_data a m.pools m.inline_tables

  -- what a turn counts, by the walk that it leaves
  abbrev of_turn : Turned → ℕ
  of_turn t = bytes_by data_here (bytes_at t.walk.result (eqb t.walk.progress.address a))

  -- a turn adds what it counts, and goes on by no less; and the requested start stays
  record Adds (t : Turned) : Type 0 where
    sums : t.walk.progress.instruction_bytes ≡ sum + of_turn t
    rises : of_turn t + a ≤ t.walk.progress.address
    starts : t.walk.progress.start ≡ w.progress.start

  -- where the walk stays
  adds-none : (t : Turned) → t.walk.progress ≡ w.progress → bytes_at t.walk.result true ≡ 0 → Adds t
  adds-none t p e =
      let none : of_turn t ≡ 0 = rw (p, eq-eqb a a refl, e) (none-by data_here) in
      record { sums = rw (none, p) (omega arith); rises = rw (none, p) (omega arith); starts = rw p }

  -- the walk at an end, by its answer
  abbrev ending : Answer → ℕ → Context → Context
  ending r end x = with_progress (counting (bytes_to_end r end w.progress) (moving end x.progress.previous x.progress)) x

  module _ (word end : ℕ) (x : Context) (e : step_of (decode_of word a) word before ≡ ends end x) where
    abbrev i : Ins
    i = decode_of word a

    at_end : EndsAt i arm_size a end
    at_end = ends_at i word arm_size (with_saved i before) end x (omega arith) e

    start-there : x.progress.start ≡ w.progress.start
    start-there = (ended end x (step_same i word arm_size (with_saved i before)) e).1

    no-end : data_here ≡ true → ⊥
    no-end h = ended end x (data-skips i word arm_size (with_saved i before) h) e

    above : EndsAt i arm_size a end → a ≤ end
    above (inl h) = omega arith
    above (inr h) = omega (arith, h.0)

    by : (q : Bool) → pick q sum (sum + arm_size) ≡ sum + pick q 0 arm_size
    by true = omega arith
    by false = refl

    few : (q : Bool) → a + arm_size ≤ end → pick q 0 arm_size + a ≤ end
    few true h = omega arith
    few false h = omega arith

    up : EndsAt i arm_size a end → pick (eqb end a) 0 arm_size + a ≤ end
    up (inl k) = few (eqb end a) (omega arith)
    up (inr k) = rw (eq-eqb end a k.0) (omega (arith, k.0))

    adds-closed : (r : Answer) → is_going r ≡ false → Adds (closed r (ending r end x))
    adds-closed Going f = absurd (let z : ◌≡◌ {A = ℕ} 0 1 = cc in omega arith)
    adds-closed (Refused n k q) f = record {
      sums = omega (arith, none-by data_here);
      rises = omega (arith, none-by data_here, above at_end);
      starts = start-there;
    }
    adds-closed (Accepted r) f = step data_here refl
      where
        step : (d : Bool) → data_here ≡ d → Adds (closed (Accepted r) (ending (Accepted r) end x))
        step true h = absurd (no-end h)
        step false h = record { sums = rw h (by (eqb end a)); rises = rw h (up at_end); starts = start-there }

  adds-settled : (word : ℕ) (s : Step) → step_of (decode_of word a) word before ≡ s → Adds (settled before s)
  adds-settled word (on x) e = absurd (never_on (decode_of word a) word arm_size (with_saved (decode_of word a) before) x e)
  adds-settled word (goes x) e = step data_here refl
    where
      i : Ins
      i = decode_of word a

      ready : Context
      ready = with_saved i before

      step : (d : Bool) → data_here ≡ d → Adds (settled before (goes x))
      step true h =
          let same = gone x (data-skips i word arm_size ready h) e in
          let past = goes-past i word arm_size ready x (omega arith) e in
          record { sums = rw h (omega arith); rises = rw h (omega arith); starts = (gone x (step_same i word arm_size ready) e).1 }
      step false h =
          let code = no-data a m.pools m.inline_tables h in
          let past = goes-next i word arm_size ready x code.0 code.1 e in
          let counts = goes-counted i word arm_size ready x h e in
          let moved = ne_eqb x.progress.address a (λ q. omega arith) in
          record { sums = rw (h, moved) counts; rises = rw (h, moved) (omega arith); starts = (gone x (step_same i word arm_size ready) e).1 }
  adds-settled word (ends end x) e = adds-closed word end x e (function_of end x) (function-ends end x)
  adds-settled word (refuses n r) e = adds-none (settled before (refuses n r)) refl refl

  turn-adds : Adds (turn g w m)
  unfolding turn
  turn-adds = at (word_from g.code g.options.base a)
    where
      at : (y : Optional ℕ) → Adds (turn_at y before)
      at (Some word) = adds-settled word (step_of (decode_of word a) word before) refl
      at None = adds-none (turn_at None before) refl refl

  -- a turn adds its instruction bytes
  pub turn-bytes : (turn g w m).walk.progress.instruction_bytes ≡ w.progress.instruction_bytes + bytes_to w.progress.address m (turn g w m).walk
  unfolding bytes_to
  turn-bytes = turn-adds.sums

  pub turn-start : (turn g w m).walk.progress.start ≡ w.progress.start
  turn-start = turn-adds.starts

  -- and leaves their sum between the requested start and the walk's address
  pub turn-within : w.progress.start + w.progress.instruction_bytes ≤ w.progress.address
      → (turn g w m).walk.progress.start + (turn g w m).walk.progress.instruction_bytes ≤ (turn g w m).walk.progress.address
  turn-within h =
      let t = turn-adds in
      let one = t.sums in
      let two = t.rises in
      let three = t.starts in
      omega arith

-- ---- steps

module _ (o : Options) (code starts : List ℕ) where
  -- a step that leaves the walk as it was has none
  unchanged-none : (w : Walk) (m : Maps) → bytes_to w.progress.address m w ≡ 0
  unfolding bytes_to
  unchanged-none w m = rw (eq-eqb w.progress.address w.progress.address refl, none-at w.result) (none-by (is_data w.progress.address m.pools m.inline_tables))

  -- what a step comes to, by its cases
  abbrev after_by : Walk → Lists → Bool → Result (Unit {0}) Refusal → After
  after_by w l going check = pick going (step_where o code starts w l check) (unchanged w l w.result)

  -- of any walk, over any lists: a step adds its instruction bytes
  pub step-adds : (w : Walk) (l : Lists)
      → (step o code starts w l).walk.progress.instruction_bytes ≡ w.progress.instruction_bytes + step_bytes o code starts w l
  unfolding step
  step-adds w l = go (is_going w.result) (check_at o code starts w l)
    where
      go : (b : Bool) (c : Result (Unit {0}) Refusal)
          → (after_by w l b c).walk.progress.instruction_bytes
          ≡ w.progress.instruction_bytes + bytes_to w.progress.address (maps_in w.counts l) (after_by w l b c).walk
      go true (Ok t) = turn-bytes (given_by o code starts l) w (maps_in w.counts l)
      go true (Err refusal) = omega (arith, unchanged-none w (maps_in w.counts l))
      go false c = omega (arith, unchanged-none w (maps_in w.counts l))

  -- so the sum is that of all steps
  pub steps-add : (n : ℕ) (s : After)
      → (steps_from o code starts n s).walk.progress.instruction_bytes ≡ s.walk.progress.instruction_bytes + bytes_from o code starts n s.walk s.lists
  unfolding steps_from bytes_from
  steps-add zero s = omega arith
  steps-add (suc n) s =
      let next = step o code starts s.walk s.lists in
      let more = steps-add n next in
      let one = step-adds s.walk s.lists in
      omega arith

  pub steps-start : (n : ℕ) (s : After) → (steps_from o code starts n s).walk.progress.start ≡ s.walk.progress.start
  unfolding steps_from step
  steps-start zero s = refl
  steps-start (suc n) s = steps-start n (step o code starts s.walk s.lists) ∙ go (is_going s.walk.result) (check_at o code starts s.walk s.lists)
    where
      go : (b : Bool) (c : Result (Unit {0}) Refusal) → (after_by s.walk s.lists b c).walk.progress.start ≡ s.walk.progress.start
      go true (Ok t) = turn-start (given_by o code starts s.lists) s.walk (maps_in s.walk.counts s.lists)
      go true (Err refusal) = refl
      go false c = refl

  -- and it stays between the requested start and the walk's address
  pub step-within : (w : Walk) (l : Lists) → w.progress.start + w.progress.instruction_bytes ≤ w.progress.address
      → (step o code starts w l).walk.progress.start + (step o code starts w l).walk.progress.instruction_bytes
      ≤ (step o code starts w l).walk.progress.address
  unfolding step
  step-within w l h = go (is_going w.result) (check_at o code starts w l)
    where
      go : (b : Bool) (c : Result (Unit {0}) Refusal)
          → (after_by w l b c).walk.progress.start + (after_by w l b c).walk.progress.instruction_bytes ≤ (after_by w l b c).walk.progress.address
      go true (Ok t) = turn-within (given_by o code starts l) w (maps_in w.counts l) h
      go true (Err refusal) = h
      go false c = h

  pub steps-within : (n : ℕ) (s : After) → s.walk.progress.start + s.walk.progress.instruction_bytes ≤ s.walk.progress.address
      → (steps_from o code starts n s).walk.progress.start + (steps_from o code starts n s).walk.progress.instruction_bytes
      ≤ (steps_from o code starts n s).walk.progress.address
  unfolding steps_from
  steps-within zero s h = h
  steps-within (suc n) s h = steps-within n (step o code starts s.walk s.lists) (step-within s.walk s.lists h)
