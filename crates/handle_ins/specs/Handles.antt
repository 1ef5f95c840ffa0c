-- What the code of handle_ins promises, over the five lent lists.
-- Assumes nothing.
use Rattle.std.specs.Prelude.{◌≡◌, None, Result, Ok, Err, Bool, true, false, List, [], ◌∷◌, ℕ, length}
use Rattle.arm.specs.declared.Ins.{Ins}
use Rattle.base.specs.declared.refusal.Refusal.TheVariants.{ListFull}
use Rattle.context.specs.declared.Handled.{Handled}
use Rattle.context.specs.declared.Module.{Module}
use Rattle.context.specs.declared.State.{State}
use Rattle.context.specs.declared.Stepped.{Stepped}
use Rattle.context.specs.declared.Then.{Then}
use Rattle.context.specs.declared.Then.TheVariants.{Refuses}
use Rattle.context.specs.Blocks.{handle_ins_inner}
use Rattle.context.specs.Context.{Context, Given, Step, call_row}
use Rattle.context.specs.Lists.{Lists, lists, AllHeld, maps_in, places_of}
use Rattle.context.specs.State.{World, Comes, context_of, read, placed, has_place, putting, counted, count_calls}
use Rattle.registers.specs.declared.Registers.{Registers}
use Rattle.base.specs.declared.refusal.Refusal.{Refusal}
use Rattle.rows.specs.Map.{map_in, Held, key_of, rows_left, fits}
use Rattle.rows.specs.Rows.{inserted}

-- the context of a state and the registers, with the maps that the lists hold
abbrev pub context_in : Given → Registers → State → Lists → Context
context_in g h s l = record {
  given = g;
  next = s.next;
  progress = s.progress;
  machines = s.machines;
  registers = h;
  maps = maps_in s.counts l;
}

-- what a step's blocks work on: these are the calls before it
abbrev pub world_of : Given → Registers → List (List ℕ) → Lists → World
world_of g h calls l = record {
  given = g;
  labels = l.labels;
  pools = l.pools;
  jump_tables = l.jump_tables;
  inline_tables = l.inline_tables;
  calls = calls;
  registers = h;
}

-- all that a step's blocks are lent, in a world of which they see nothing else
abbrev pub all_in : Module → Registers → Lists → World → World
all_in m h x l = record {
  given = record { options = m.options; places = l.given.places; code = m.code.now; starts = map_in 1 (length m.starts.now) m.starts.now };
  labels = x.labels;
  pools = x.pools;
  jump_tables = x.jump_tables;
  inline_tables = x.inline_tables;
  calls = l.calls;
  registers = h;
}

-- no call is to be put before a step
abbrev pub NoCall : State → Type 0
NoCall s = s.call ≡ None

abbrev pub calls_of : State → Lists → List (List ℕ)
calls_of s l = map_in call_row s.counts.calls l.calls

-- handle_ins_inner: a call that it puts is not in the list yet
abbrev pub Inner : Given → Ins → ℕ → ℕ → State → Registers → Lists → Lists → Handled → Type 0
Inner g i word size s h before after r =
    Comes (has_place s.progress.address (world_of g h (calls_of s before) before))
    s.progress.address
    s.call
    r.stepped
    (world_of g r.registers (calls_of s before) after)
    (handle_ins_inner i word size (context_of s (world_of g h (calls_of s before) before)))

-- a call from the address has a place in the list
abbrev pub has_room : ℕ → ℕ → List ℕ → Bool
has_room a count calls = fits call_row (length calls) (inserted key_of (a ∷ []) (map_in call_row count calls))

abbrev pub calls_at : List ℕ → Lists → Lists
calls_at calls l = lists l.labels l.pools l.jump_tables l.inline_tables calls

abbrev pub then_entered : Result ℕ Refusal → Then → Then
then_entered (Ok count) then = then
then_entered (Err refusal) then = Refuses refusal 0

-- the code's `with_entry`, where so many calls were in the list before
abbrev pub with_entry : ℕ → Result ℕ Refusal → Stepped → Stepped
with_entry was e r = record {
  then = then_entered e r.then;
  state = putting None (counted (count_calls (rows_left e was) r.state.counts) r.state);
}

-- the call that r puts is in its list, if that has a place, and else p is a refusal
pub record Stores (count : ℕ) (before after : List ℕ) (r p : Stepped) : Type 0 where
  pub held : Held call_row p.state.counts.calls after
  pub counts : p.state.counts ≡ count_calls p.state.counts.calls r.state.counts
  pub says : placed (has_room r.state.progress.address count before) r.state.call ≡ true → (g : Given) (h : Registers) (l : Lists)
      → read p.then (context_in g h p.state (calls_at after l)) ≡ read r.then (context_of r.state (world_of g h (map_in call_row count before) l))
  pub full : placed (has_room r.state.progress.address count before) r.state.call ≡ false → p.then ≡ Refuses ListFull 0

-- the code came to a step, with all calls in their list
pub record Handles (g : Given) (r : Handled) (before after : Lists) (step : Step) : Type 0 where
  pub held : AllHeld r.stepped.state.counts after
  pub places : places_of after ≡ places_of before
  pub says : read r.stepped.then (context_in g r.registers r.stepped.state after) ≡ step
