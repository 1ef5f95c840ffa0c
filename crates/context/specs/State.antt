-- What the code's state and the lent slices mean, and what a block's code promises.
-- Assumes nothing.
use Rattle.std.specs.Prelude.{◌≡◌, Option, Some, None, Bool, true, false, not, List, [], ◌∷◌, ℕ, ◌+◌, ltb, length}
use Rattle.arm.specs.declared.Ins.{Ins}
use Rattle.base.specs.Choice.{pick, both}
use Rattle.base.specs.declared.refusal.Refusal.TheVariants.{ListFull}
use Rattle.predicates.specs.Predicates.{as_previous, mode_no}
use Rattle.registers.specs.declared.Registers.{Registers}
use Rattle.registers.specs.Registers.{forgotten, holding}
use Rattle.rows.specs.Rows.{inserted}
use Rattle.rows.specs.Map.{key_of, map_in, Held, fits}
use Rattle.walk.specs.declared.Counts.{Counts}
use Rattle.walk.specs.declared.Machines.{Machines}
use Rattle.walk.specs.declared.Options.{Options}
use Rattle.walk.specs.declared.Progress.{Progress}
use Rattle.context.specs.declared.Load.{Load}
use Rattle.context.specs.declared.Module.{Module}
use Rattle.context.specs.declared.NewCall.{NewCall}
use Rattle.context.specs.declared.State.{State}
use Rattle.context.specs.declared.Stepped.{Stepped}
use Rattle.context.specs.declared.Then.{Then}
use Rattle.context.specs.declared.Then.TheVariants.{On, Goes, Ends, Refuses}
use Rattle.context.specs.Blocks.{is_destination}
use Rattle.context.specs.Context.{Context, Given, Step, on, goes, ends, refuses, label_row, pool_row, table_row, call_row, counting, moving}

-- ---- assignments to a state

abbrev pub headed : ℕ → State → State
headed a s = record { next = a; progress = s.progress; machines = s.machines; counts = s.counts; call = s.call }

abbrev pub progressed : Progress → State → State
progressed p s = record { next = s.next; progress = p; machines = s.machines; counts = s.counts; call = s.call }

abbrev pub machined : Machines → State → State
machined m s = record { next = s.next; progress = s.progress; machines = m; counts = s.counts; call = s.call }

abbrev pub counted : Counts → State → State
counted n s = record { next = s.next; progress = s.progress; machines = s.machines; counts = n; call = s.call }

abbrev pub putting : Option NewCall → State → State
putting k s = record { next = s.next; progress = s.progress; machines = s.machines; counts = s.counts; call = k }

abbrev pub count_labels : ℕ → Counts → Counts
count_labels x n = record { labels = x; pools = n.pools; jump_tables = n.jump_tables; inline_tables = n.inline_tables; calls = n.calls }

abbrev pub count_pools : ℕ → Counts → Counts
count_pools x n = record { labels = n.labels; pools = x; jump_tables = n.jump_tables; inline_tables = n.inline_tables; calls = n.calls }

abbrev pub count_jump_tables : ℕ → Counts → Counts
count_jump_tables x n = record { labels = n.labels; pools = n.pools; jump_tables = x; inline_tables = n.inline_tables; calls = n.calls }

abbrev pub count_inline_tables : ℕ → Counts → Counts
count_inline_tables x n = record { labels = n.labels; pools = n.pools; jump_tables = n.jump_tables; inline_tables = x; calls = n.calls }

abbrev pub count_calls : ℕ → Counts → Counts
count_calls x n = record { labels = n.labels; pools = n.pools; jump_tables = n.jump_tables; inline_tables = n.inline_tables; calls = x }

-- ---- what a block works on beside the state: what is given, four lent slices, the calls as a map, since a host may lend them in another form,
-- ---- and the registers

pub record World : Type 0 where
  pub given : Given
  pub labels : List ℕ
  pub pools : List ℕ
  pub jump_tables : List ℕ
  pub inline_tables : List ℕ
  pub calls : List (List ℕ)
  pub registers : Registers

abbrev pub labels_in : List ℕ → World → World
labels_in x l = record { given = l.given; labels = x; pools = l.pools; jump_tables = l.jump_tables; inline_tables = l.inline_tables; calls = l.calls; registers = l.registers }

abbrev pub pools_in : List ℕ → World → World
pools_in x l = record { given = l.given; labels = l.labels; pools = x; jump_tables = l.jump_tables; inline_tables = l.inline_tables; calls = l.calls; registers = l.registers }

abbrev pub jump_tables_in : List ℕ → World → World
jump_tables_in x l = record { given = l.given; labels = l.labels; pools = l.pools; jump_tables = x; inline_tables = l.inline_tables; calls = l.calls; registers = l.registers }

abbrev pub inline_tables_in : List ℕ → World → World
inline_tables_in x l = record { given = l.given; labels = l.labels; pools = l.pools; jump_tables = l.jump_tables; inline_tables = x; calls = l.calls; registers = l.registers }

abbrev pub registers_in : Registers → World → World
registers_in x l = record { given = l.given; labels = l.labels; pools = l.pools; jump_tables = l.jump_tables; inline_tables = l.inline_tables; calls = l.calls; registers = x }

abbrev pub given_in : Given → World → World
given_in x l = record { given = x; labels = l.labels; pools = l.pools; jump_tables = l.jump_tables; inline_tables = l.inline_tables; calls = l.calls; registers = l.registers }

abbrev pub options_in : Options → World → World
options_in o l = given_in (record { options = o; places = l.given.places; code = l.given.code; starts = l.given.starts }) l

abbrev pub code_in : List ℕ → World → World
code_in c l = given_in (record { options = l.given.options; places = l.given.places; code = c; starts = l.given.starts }) l

abbrev pub starts_in : List ℕ → World → World
starts_in x l = given_in (record { options = l.given.options; places = l.given.places; code = l.given.code; starts = map_in 1 (length x) x }) l

abbrev pub module_in : Module → World → World
module_in m l = given_in (record { options = m.options; places = l.given.places; code = m.code.now; starts = map_in 1 (length m.starts.now) m.starts.now }) l

-- the slices hold maps of these counts, and have their places
pub record Holds (n : Counts) (l : World) : Type 0 where
  pub labels : Held label_row n.labels l.labels
  pub pools : Held pool_row n.pools l.pools
  pub jump_tables : Held table_row n.jump_tables l.jump_tables
  pub inline_tables : Held table_row n.inline_tables l.inline_tables
  pub label_places : length l.labels ≡ l.given.places.labels
  pub pool_places : length l.pools ≡ l.given.places.pools
  pub jump_table_places : length l.jump_tables ≡ l.given.places.jump_tables
  pub inline_table_places : length l.inline_tables ≡ l.given.places.inline_tables

-- the call that is to be put is in the map
abbrev pub called : Option NewCall → ℕ → List (List ℕ) → List (List ℕ)
called None a m = m
called (Some k) a m = inserted key_of (a ∷ k.word ∷ k.destination ∷ mode_no k.mode ∷ []) m

abbrev pub context_of : State → World → Context
context_of s l = record {
  given = l.given;
  next = s.next;
  progress = s.progress;
  machines = s.machines;
  registers = l.registers;
  maps = record {
    labels = map_in label_row s.counts.labels l.labels;
    pools = map_in pool_row s.counts.pools l.pools;
    jump_tables = map_in table_row s.counts.jump_tables l.jump_tables;
    inline_tables = map_in table_row s.counts.inline_tables l.inline_tables;
    calls = called s.call s.progress.address l.calls;
  };
}

-- ---- what a block comes to

abbrev pub is_on : Then → Bool
is_on On = true
is_on Goes = false
is_on (Ends a) = false
is_on (Refuses n r) = false

abbrev pub read : Then → Context → Step
read On c = on c
read Goes c = goes c
read (Ends a) c = ends a c
read (Refuses n r) c = refuses n r

-- the code's `pass`
abbrev pub passes_as : Then → Ins → ℕ → State → Stepped
passes_as On i bytes s = record { then = Goes; state = progressed (moving s.next (as_previous i) (counting bytes s.progress)) s }
passes_as Goes i bytes s = record { then = Goes; state = progressed (moving s.next (as_previous i) s.progress) s }
passes_as (Ends a) i bytes s = record { then = Ends a; state = s }
passes_as (Refuses n r) i bytes s = record { then = Refuses n r; state = s }

abbrev pub passes : Ins → ℕ → Stepped → Stepped
passes i bytes r = passes_as r.then i bytes r.state

-- the registers once a pool word is loaded
abbrev pub loaded_by : Option Load → Registers → Registers
loaded_by None h = h
loaded_by (Some x) h = holding h x.register x.value x.address

abbrev pub loaded_in : Option Load → World → World
loaded_in x l = registers_in (loaded_by x l.registers) l

-- the registers without those that an instruction writes, where the blocks so far went on; else as they were
abbrev pub forgotten_by : Then → Ins → Registers → Registers
forgotten_by t i h = pick (is_on t) (forgotten h i.defs) h

-- a call from the address has a place in the list of calls
abbrev pub has_place : ℕ → World → Bool
has_place a l = fits call_row l.given.places.calls (inserted key_of (a ∷ []) l.calls)

-- what is put has its place
abbrev pub placed : Bool → Option NewCall → Bool
placed has None = true
placed has (Some k) = has

-- a block's code came to a step, and put no call: the address and the call stay, the slices hold maps, and what it hands back means the step
pub record Settles (a : ℕ) (k : Option NewCall) (r : Stepped) (l : World) (step : Step) : Type 0 where
  pub stays : r.state.progress.address ≡ a
  pub call : r.state.call ≡ k
  pub holds : Holds r.state.counts l
  pub says : read r.then (context_of r.state l) ≡ step

-- the same where it may have put a call. That is put in its list behind the blocks: where it has no place, the step is a refusal, whatever
-- the code went on to
pub record Comes (has : Bool) (a : ℕ) (k : Option NewCall) (r : Stepped) (l : World) (step : Step) : Type 0 where
  pub stays : r.state.progress.address ≡ a
  pub keeps : placed has r.state.call ≡ true → placed has k ≡ true
  pub holds : Holds r.state.counts l
  pub says : placed has r.state.call ≡ true → read r.then (context_of r.state l) ≡ step
  pub full : placed has r.state.call ≡ false → placed has k ≡ true → step ≡ refuses ListFull 0

-- what a block does, whatever stands in the slices, options, code and registers that it does not see
abbrev pub Does : (World → World) → (World → World) → (Context → Step) → State → Stepped → Type 0
Does before after block s r =
    (l : World) → Holds s.counts (before l) → Settles s.progress.address s.call r (after l) (block (context_of s (before l)))

-- the same where it may put a call, and was told what holds
abbrev pub PutsIf : (World → Type 0) → (World → World) → (World → World) → (Context → Step) → State → Stepped → Type 0
PutsIf P before after block s r =
    (l : World) → P (before l) → Holds s.counts (before l)
    → Comes (has_place s.progress.address l) s.progress.address s.call r (after l) (block (context_of s (before l)))

abbrev pub Puts : (World → World) → (World → World) → (Context → Step) → State → Stepped → Type 0
Puts before after block s r =
    (l : World) → Holds s.counts (before l)
    → Comes (has_place s.progress.address l) s.progress.address s.call r (after l) (block (context_of s (before l)))

abbrev pub same : World → World
same l = l

-- a return asks whether a call goes to the next address, where a pool lies further on
unfoldable pub asks_calls : ℕ → Bool → Bool → Progress → Bool
asks_calls size inside returns p = both (not inside) (both returns (ltb (p.address + size) p.last_pool_address))

-- what the code is told of that: the list of calls is read before the blocks that may put one
abbrev pub ToldOfCalls : ℕ → Bool → Bool → Bool → State → World → Type 0
ToldOfCalls size inside returns is_called s l =
    asks_calls size inside returns s.progress ≡ true
    → is_called ≡ is_destination (s.progress.address + size) (context_of s l).maps.calls
