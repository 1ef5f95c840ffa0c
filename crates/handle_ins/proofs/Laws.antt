-- What the code of handle_ins comes to: the calls that it asks, its blocks, and the call that it puts.
-- Assumes nothing.
use Rattle.base.proofs.Prelude.{◌∙◌, sym, refl, ◌≡◌, ap, subst, false, true, Bool, List, [], ◌∷◌, ℕ, ◌+◌, ◌<◌, ◌^◌, ltb, length}
use Rattle.arm.specs.declared.Ins.{Ins}
use Rattle.base.specs.Choice.{pick}
use Rattle.context.specs.declared.Handled.{Handled}
use Rattle.context.specs.declared.Loaded.{Loaded}
use Rattle.std.specs.Prelude.{Option, Some, None, Result, Ok, Err}
use Rattle.context.specs.declared.Module.{Module}
use Rattle.context.specs.declared.NewCall.{NewCall}
use Rattle.context.specs.declared.Parsed.{Parsed}
use Rattle.context.specs.declared.State.{State}
use Rattle.context.specs.declared.Stepped.{Stepped}
use Rattle.context.specs.declared.Then.{Then}
use Rattle.context.specs.declared.Then.TheVariants.{On, Goes, Ends, Refuses}
use Rattle.context.specs.Blocks.{is_destination, in_conditional_block, to_return, from_return, handle_ins_inner, handle_ins, passed}
use Rattle.context.specs.Context.{Context, Given, Step, call_row, label_row, pool_row, table_row, going_to}
use Rattle.context.specs.Lists.{Lists, lists, AllHeld, given_to}
use Rattle.context.specs.State.{World, Holds, Settles, Comes, Does, PutsIf, ToldOfCalls, asks_calls, context_of, called, is_on, read, placed, has_place}
use Rattle.context.specs.State.{labels_in, pools_in, jump_tables_in, inline_tables_in, module_in, registers_in, forgotten_by, loaded_by, loaded_in, passes, passes_as, headed}
use Rattle.context.proofs.Laws.{settled as comes, full-refusal, stop, go_on}
use Rattle.predicates.specs.declared.Mode.{Mode}
use Rattle.predicates.specs.Predicates.{is_return, mode_no}
use Rattle.registers.specs.declared.Registers.{Registers}
use Rattle.registers.specs.Registers.{forgotten}
use Rattle.base.specs.declared.refusal.Refusal.{Refusal}
use Rattle.base.specs.declared.refusal.Refusal.TheVariants.{ListFull}
use Rattle.rows.specs.Map.{key_of, map_in, Held, Entering, fits}
use Rattle.rows.specs.Rows.{inserted}
use Rattle.rows.proofs.RowLaws.{inserted-length}
use Rattle.walk.specs.declared.Counts.{Counts}
use Rattle.handle_ins.specs.Handles.{context_in, world_of, all_in, calls_of, Inner, has_room, calls_at, with_entry, Stores, Handles}

-- ---- the call of a step in its list

as_long : (a : ℕ) (r : List ℕ) (places : ℕ) (m : List (List ℕ)) → fits call_row places (inserted key_of (a ∷ r) m) ≡ fits call_row places (inserted key_of (a ∷ []) m)
as_long a r places m = rw (inserted-length key_of (a ∷ r) m, inserted-length key_of (a ∷ []) m)

module _ (count : ℕ) (before : List ℕ) (r : Stepped) where
  -- one that puts no call
  pub stores-nothing : r.state.call ≡ None → Held call_row count before → Stores count before before r (with_entry count (Ok count) r)
  stores-nothing e h = rw e (record { held = h; counts = refl; says = λ q g h l. refl; full = λ q. cc })

  pub stores-call : {w d : ℕ} {mode : Mode} {after : List ℕ} {p : Stepped} (e : Result ℕ Refusal) → r.state.call ≡ Some (record { word = w; destination = d; mode = mode })
      → Entering call_row count before (r.state.progress.address ∷ w ∷ d ∷ mode_no mode ∷ []) e after → p ≡ with_entry count e r → Stores count before after r p
  stores-call {w} {d} {mode} {after} e call i is = rw is (step e i)
    where
      row : List (List ℕ)
      row = inserted key_of (r.state.progress.address ∷ w ∷ d ∷ mode_no mode ∷ []) (map_in call_row count before)

      room : Bool
      room = has_room r.state.progress.address count before

      same : fits call_row (length before) row ≡ room
      same = as_long r.state.progress.address (w ∷ d ∷ mode_no mode ∷ []) (length before) (map_in call_row count before)

      has : {m : ℕ} (b : Bool) → ◌≡◌ {A = Result ℕ Refusal} (Ok m) (pick b (Ok m) (Err ListFull)) → b ≡ false → ⊥
      has true q f = cc
      has false q f = cc

      hasnt : {m : Refusal} (b : Bool) → ◌≡◌ {A = Result ℕ Refusal} (Err m) (pick b (Ok count) (Err ListFull)) → b ≡ true → ⊥
      hasnt true q f = cc
      hasnt false q f = cc

      step : (e : Result ℕ Refusal) → Entering call_row count before (r.state.progress.address ∷ w ∷ d ∷ mode_no mode ∷ []) e after
          → Stores count before after r (with_entry count e r)
      step (Ok m) i = record {
        held = i.held;
        counts = refl;
        says = λ q g h l. rw call (ap (λ (m : List (List ℕ)). read r.then (record {
          given = g;
          next = r.state.next;
          progress = r.state.progress;
          machines = r.state.machines;
          registers = h;
          maps = record {
            labels = map_in label_row r.state.counts.labels l.labels;
            pools = map_in pool_row r.state.counts.pools l.pools;
            jump_tables = map_in table_row r.state.counts.jump_tables l.jump_tables;
            inline_tables = map_in table_row r.state.counts.inline_tables l.inline_tables;
            calls = m;
          };
        })) i.leaves);
        full = λ q. absurd (has (fits call_row (length before) row) i.says (same ∙ rw call at q));
      }
      step (Err refusal) i = record {
        held = i.held;
        counts = refl;
        says = λ q g h l. absurd (hasnt (fits call_row (length before) row) i.says (same ∙ rw call at q));
        full = λ q. rw (full-refusal i);
      }

-- ---- handle_ins

pub all-holds : (given : Module) (g : Registers) (calls : List (List ℕ)) {n : Counts} {l : Lists} → AllHeld n l
    → Holds n (world_of (given_to given l) g calls l)
all-holds given g calls h = record {
  labels = h.labels;
  pools = h.pools;
  jump_tables = h.jump_tables;
  inline_tables = h.inline_tables;
  label_places = refl;
  pool_places = refl;
  jump_table_places = refl;
  inline_table_places = refl;
}

-- up to in_conditional_block, and from there on; g are the registers before
module _ (given : Module) (p : Parsed) (s : State) (g : Registers) (before : Lists) {pools jumps : List ℕ} {r : Stepped} (held : AllHeld s.counts before)
    (does : Does (λ l. registers_in g (pools_in before.pools (jump_tables_in before.jump_tables (inline_tables_in before.inline_tables l))))
    (λ l. registers_in (forgotten_by r.then p.ins g) (pools_in pools (jump_tables_in jumps (inline_tables_in before.inline_tables l))))
    (to_return p.ins)
    s
    r) where
  abbrev world : World
  world = world_of (given_to given before) g (calls_of s before) before

  abbrev mid : Registers → World
  mid x = all_in given x (lists before.labels pools jumps before.inline_tables []) world

  abbrev here : Context
  here = context_of s (all_in given g before world)

  pub inner_first : Settles s.progress.address s.call r (mid (forgotten_by r.then p.ins g)) (to_return p.ins here)
  inner_first = does (module_in given (labels_in before.labels world)) (all-holds given g (calls_of s before) held)

  pub inner-stops : {has : Bool} → is_on r.then ≡ false
      → Comes has s.progress.address s.call r (mid g) (handle_ins_inner p.ins p.word p.size here)
  unfolding handle_ins_inner
  inner-stops e =
      stop (λ c. from_return p.ins p.word p.size (in_conditional_block c) (is_return c.progress.address p.ins c.progress.previous) c) e (comes (rw e at inner_first))

  pub inner-goes : {labels' pools' inlines' : List ℕ} (u : Loaded) {inside returns is_called : Bool} → s.call ≡ None → is_on r.then ≡ true
      → inside ≡ ltb r.state.progress.address r.state.progress.last_conditional_destination
      → returns ≡ is_return r.state.progress.address p.ins r.state.progress.previous
      → (asks_calls p.size inside returns r.state.progress ≡ true → is_called ≡ is_destination (r.state.progress.address + p.size) world.calls)
      → PutsIf (ToldOfCalls p.size inside returns is_called r.state)
      (λ l. module_in given (labels_in before.labels (pools_in pools (inline_tables_in before.inline_tables l))))
      (λ l. loaded_in u.load (module_in given (labels_in labels' (pools_in pools' (inline_tables_in inlines' l)))))
      (from_return p.ins p.word p.size inside returns)
      r.state
      u.stepped
      → Comes (has_place s.progress.address world) s.progress.address s.call u.stepped
      (all_in given (loaded_by u.load (forgotten g p.ins.defs)) (lists labels' pools' jumps inlines' []) world)
      (handle_ins_inner p.ins p.word p.size here)
  unfolding handle_ins_inner in_conditional_block
  inner-goes {labels'} {pools'} {inlines'} u {inside} {returns} {is_called} none is-on is_Block is-returning tells puts =
      subst
      (λ (a : ℕ). Comes (has_place a world) s.progress.address s.call u.stepped
      (all_in given (loaded_by u.load (forgotten g p.ins.defs)) (lists labels' pools' jumps inlines' []) world)
      (handle_ins_inner p.ins p.word p.size here))
      first.stays
      (go_on (λ c. from_return p.ins p.word p.size (in_conditional_block c) (is_return c.progress.address p.ins c.progress.previous) c) is-on (comes first)
      (rw (is_Block, is-returning) at (puts (mid (forgotten g p.ins.defs)) told first.holds)))
    where
      first : Settles s.progress.address s.call r (mid (forgotten g p.ins.defs)) (to_return p.ins here)
      first = rw is-on at inner_first

      told : asks_calls p.size inside returns r.state.progress ≡ true
          → is_called ≡ is_destination (r.state.progress.address + p.size) (context_of r.state (mid (forgotten g p.ins.defs))).maps.calls
      told e =
          tells e
          ∙ sym (ap (λ (k : Option NewCall). is_destination (r.state.progress.address + p.size) (called k r.state.progress.address world.calls)) (first.call ∙ none))

pub below : (size : ℕ) {x a : ℕ} → x ≡ a → a + size < 2 ^ 32 → x + size < 2 ^ 32
below size e h = rw e h

-- the blocks' step with its call in its list
module _ (given : Module) (before mid : Lists) (after : List ℕ) where
  pub handles-stored : {h : Registers} {r p : Stepped} {a n : ℕ} {k : Option NewCall} {step : Step} → k ≡ None
      → Comes (has_place a (world_of (given_to given before) h (map_in call_row n before.calls) before)) a k r (world_of (given_to given before) h (map_in call_row n before.calls) mid) step
      → Stores n before.calls after r p → length after ≡ length before.calls
      → Handles (given_to given before) (record { stepped = p; registers = h }) before (calls_at after mid) step
  handles-stored {h} {r} {p} {a} {n} {k} {step} none w s long = record {
    held = record {
      labels = rw (ap (λ (n : Counts). n.labels) s.counts) w.holds.labels;
      pools = rw (ap (λ (n : Counts). n.pools) s.counts) w.holds.pools;
      jump_tables = rw (ap (λ (n : Counts). n.jump_tables) s.counts) w.holds.jump_tables;
      inline_tables = rw (ap (λ (n : Counts). n.inline_tables) s.counts) w.holds.inline_tables;
      calls = s.held;
    };
    places = rw (w.holds.label_places, w.holds.pool_places, w.holds.jump_table_places, w.holds.inline_table_places, long);
    says = says (placed (has_room a n before.calls) r.state.call) refl;
  }
    where
      at : {b : Bool} → placed (has_room a n before.calls) r.state.call ≡ b
          → placed (has_room r.state.progress.address n before.calls) r.state.call ≡ b
      at e = ap (λ (x : ℕ). placed (has_room x n before.calls) r.state.call) w.stays ∙ e

      says : (b : Bool) → placed (has_room a n before.calls) r.state.call ≡ b
          → read p.then (context_in (given_to given before) h p.state (calls_at after mid)) ≡ step
      says true e = s.says (at e) (given_to given before) h mid ∙ w.says e
      says false e =
          ap (λ (t : Then). read t (context_in (given_to given before) h p.state (calls_at after mid))) (s.full (at e))
          ∙ sym (w.full e (ap (placed (has_room a n before.calls)) none))

-- and the word becomes the previous instruction
module _ (i : Ins) (bytes : ℕ) (g : Given) (l : Lists) where
  passes-counts : (t : Then) (s : State) → (passes_as t i bytes s).state.counts ≡ s.counts
  passes-counts On s = refl
  passes-counts Goes s = refl
  passes-counts (Ends a) s = refl
  passes-counts (Refuses n r) s = refl

  passes-read : (x : Registers) (t : Then) (s : State)
      → read (passes_as t i bytes s).then (context_in g x (passes_as t i bytes s).state l) ≡ passed i bytes (read t (context_in g x s l))
  passes-read x On s = refl
  passes-read x Goes s = refl
  passes-read x (Ends a) s = refl
  passes-read x (Refuses n r) s = refl

  pub handles-passed : {x : Registers} {r p : Stepped} {before : Lists} {step : Step} → Handles g (record { stepped = p; registers = x }) before l step
      → r ≡ passes i bytes p → Handles g (record { stepped = r; registers = x }) before l (passed i bytes step)
  handles-passed {x} {r} {p} h e = rw e (record {
    held = rw (passes-counts p.then p.state) h.held;
    places = h.places;
    says = passes-read x p.then p.state ∙ ap (passed i bytes) h.says;
  })

module _ (given : Module) (parsed : Parsed) (s : State) (g : Registers) (before : Lists) where
  pub handles-ins : {labels pools jumps inlines after : List ℕ} {r : Handled} {p x : Stepped} → s.call ≡ None
      → Inner (given_to given before) parsed.ins parsed.word parsed.size (headed (s.progress.address + parsed.size) s) g before (lists labels pools jumps inlines before.calls) r
      → Stores s.counts.calls before.calls after r.stepped p → length after ≡ length before.calls → x ≡ passes parsed.ins (s.progress.instruction_bytes + parsed.size) p
      → Handles (given_to given before) (record { stepped = x; registers = r.registers }) before (lists labels pools jumps inlines after)
      (handle_ins parsed.ins parsed.word parsed.size (context_in (given_to given before) g s before))
  unfolding handle_ins
  handles-ins {labels} {pools} {jumps} {inlines} {after} {r} {p} {x} none w stored long is =
      subst
      (λ (c : Context). Handles (given_to given before) (record { stepped = x; registers = r.registers }) before (lists labels pools jumps inlines after) (passed parsed.ins (s.progress.instruction_bytes + parsed.size) (handle_ins_inner parsed.ins parsed.word parsed.size c)))
      context
      (handles-passed parsed.ins (s.progress.instruction_bytes + parsed.size) (given_to given before) (lists labels pools jumps inlines after)
      (handles-stored given before (lists labels pools jumps inlines before.calls) after none w stored long) is)
    where
      context : context_of (headed (s.progress.address + parsed.size) s) (world_of (given_to given before) g (calls_of s before) before)
          ≡ going_to (s.progress.address + parsed.size) (context_in (given_to given before) g s before)
      context = rw none
