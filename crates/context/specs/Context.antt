-- functions.rs, ParseFunctionContext: what a step of the walk works on, with its maps; and what a block of a step comes to.
-- Assumes nothing.
use Rattle.std.specs.Prelude.{List, ℕ, max}
use Rattle.analysis.specs.declared.illegal_code.IllegalCodeState.{IllegalCodeState}
use Rattle.analysis.specs.declared.function_branch.FunctionBranchState.{FunctionBranchState}
use Rattle.analysis.specs.declared.inline_table.InlineTableState.{InlineTableState}
use Rattle.analysis.specs.declared.jump_table.JumpTableStateArm.{JumpTableStateArm}
use Rattle.base.specs.Choice.{pick}
use Rattle.base.specs.declared.refusal.Refusal.{Refusal}
use Rattle.base.specs.declared.refusal.Refusal.TheVariants.{ListFull}
use Rattle.predicates.specs.declared.Previous.{Previous}
use Rattle.registers.specs.declared.Registers.{Registers}
use Rattle.rows.specs.Rows.{inserted}
use Rattle.rows.specs.Map.{key_of, fits}
use Rattle.walk.specs.declared.Counts.{Counts}
use Rattle.walk.specs.declared.Machines.{Machines}
use Rattle.walk.specs.declared.Options.{Options}
use Rattle.walk.specs.declared.Progress.{Progress}

-- the numbers in a row. labels: address. pools: address, value, mark. tables: address, size. calls: address, word, destination, mode
abbrev pub label_row : ℕ
label_row = 1

abbrev pub pool_row : ℕ
pool_row = 3

abbrev pub table_row : ℕ
table_row = 2

abbrev pub call_row : ℕ
call_row = 4

-- labels, pool_constants, jump_tables, inline_tables, function_calls: rows that ascend strictly by address
pub record Maps : Type 0 where
  pub labels : List (List ℕ)
  pub pools : List (List ℕ)
  pub jump_tables : List (List ℕ)
  pub inline_tables : List (List ℕ)
  pub calls : List (List ℕ)

-- what stays as it is: the host's choices, the places of each lent list, the module's code, existing_functions
pub record Given : Type 0 where
  pub options : Options
  pub places : Counts
  pub code : List ℕ
  pub starts : List (List ℕ)

-- `next` is the parser's address
pub record Context : Type 0 where
  pub given : Given
  pub next : ℕ
  pub progress : Progress
  pub machines : Machines
  pub registers : Registers
  pub maps : Maps

-- what a block comes to: on to the next block; ParseFunctionState::Continue; Done, with end_address; or a refusal, and the register that an
-- undefined one carries
pub data Step : Type 0 where
  on : Context → Step
  goes : Context → Step
  ends : ℕ → Context → Step
  refuses : Refusal → ℕ → Step

infixl 20 ◌▸◌
-- the next block, unless the step has come to something
abbrev pub ◌▸◌ : Step → (Context → Step) → Step
◌▸◌ (on c) f = f c
◌▸◌ (goes c) f = goes c
◌▸◌ (ends a c) f = ends a c
◌▸◌ (refuses n r) f = refuses n r

-- ---- assignments to a context

-- parser.goto
abbrev pub going_to : ℕ → Context → Context
going_to a c = record { given = c.given; next = a; progress = c.progress; machines = c.machines; registers = c.registers; maps = c.maps }

abbrev pub with_progress : Progress → Context → Context
with_progress p c = record { given = c.given; next = c.next; progress = p; machines = c.machines; registers = c.registers; maps = c.maps }

abbrev pub with_machines : Machines → Context → Context
with_machines m c = record { given = c.given; next = c.next; progress = c.progress; machines = m; registers = c.registers; maps = c.maps }

abbrev pub with_registers : Registers → Context → Context
with_registers r c = record { given = c.given; next = c.next; progress = c.progress; machines = c.machines; registers = r; maps = c.maps }

abbrev pub with_maps : Maps → Context → Context
with_maps m c = record { given = c.given; next = c.next; progress = c.progress; machines = c.machines; registers = c.registers; maps = m }

-- ---- to its progress

-- last_conditional_destination.max(..)
abbrev pub raising : ℕ → Progress → Progress
raising d p = record { start = p.start; address = p.address; last_conditional_destination = max p.last_conditional_destination d; last_pool_address = p.last_pool_address; jump_table_end_address = p.jump_table_end_address; defined_registers = p.defined_registers; saved_registers = p.saved_registers; instruction_bytes = p.instruction_bytes; previous = p.previous }

-- jump_table_end_address
abbrev pub table_to : ℕ → Progress → Progress
table_to end p = record { start = p.start; address = p.address; last_conditional_destination = p.last_conditional_destination; last_pool_address = p.last_pool_address; jump_table_end_address = end; defined_registers = p.defined_registers; saved_registers = p.saved_registers; instruction_bytes = p.instruction_bytes; previous = p.previous }

-- last_pool_address.max(..)
abbrev pub pool_to : ℕ → Progress → Progress
pool_to a p = record { start = p.start; address = p.address; last_conditional_destination = p.last_conditional_destination; last_pool_address = max p.last_pool_address a; jump_table_end_address = p.jump_table_end_address; defined_registers = p.defined_registers; saved_registers = p.saved_registers; instruction_bytes = p.instruction_bytes; previous = p.previous }

-- defined_registers
abbrev pub defining : ℕ → Progress → Progress
defining d p = record { start = p.start; address = p.address; last_conditional_destination = p.last_conditional_destination; last_pool_address = p.last_pool_address; jump_table_end_address = p.jump_table_end_address; defined_registers = d; saved_registers = p.saved_registers; instruction_bytes = p.instruction_bytes; previous = p.previous }

-- what the function's first instruction saves
abbrev pub saving : ℕ → Progress → Progress
saving n p = record { start = p.start; address = p.address; last_conditional_destination = p.last_conditional_destination; last_pool_address = p.last_pool_address; jump_table_end_address = p.jump_table_end_address; defined_registers = p.defined_registers; saved_registers = n; instruction_bytes = p.instruction_bytes; previous = p.previous }

-- the sum of the instructions' sizes
abbrev pub counting : ℕ → Progress → Progress
counting n p = record { start = p.start; address = p.address; last_conditional_destination = p.last_conditional_destination; last_pool_address = p.last_pool_address; jump_table_end_address = p.jump_table_end_address; defined_registers = p.defined_registers; saved_registers = p.saved_registers; instruction_bytes = n; previous = p.previous }

-- the address of the next turn, and prev_ins
abbrev pub moving : ℕ → Previous → Progress → Progress
moving a previous p = record { start = p.start; address = a; last_conditional_destination = p.last_conditional_destination; last_pool_address = p.last_pool_address; jump_table_end_address = p.jump_table_end_address; defined_registers = p.defined_registers; saved_registers = p.saved_registers; instruction_bytes = p.instruction_bytes; previous = previous }

-- ---- to its machines

abbrev pub jump_table_to : JumpTableStateArm → Machines → Machines
jump_table_to s m = record { jump_table = s; function_branch = m.function_branch; inline_table = m.inline_table; illegal_code = m.illegal_code }

abbrev pub function_branch_to : FunctionBranchState → Machines → Machines
function_branch_to s m = record { jump_table = m.jump_table; function_branch = s; inline_table = m.inline_table; illegal_code = m.illegal_code }

abbrev pub inline_table_to : InlineTableState → Machines → Machines
inline_table_to s m = record { jump_table = m.jump_table; function_branch = m.function_branch; inline_table = s; illegal_code = m.illegal_code }

abbrev pub illegal_code_to : IllegalCodeState → Machines → Machines
illegal_code_to s m = record { jump_table = m.jump_table; function_branch = m.function_branch; inline_table = m.inline_table; illegal_code = s }

-- ---- to its maps

abbrev pub labels_to : List (List ℕ) → Maps → Maps
labels_to x m = record { labels = x; pools = m.pools; jump_tables = m.jump_tables; inline_tables = m.inline_tables; calls = m.calls }

abbrev pub pools_to : List (List ℕ) → Maps → Maps
pools_to x m = record { labels = m.labels; pools = x; jump_tables = m.jump_tables; inline_tables = m.inline_tables; calls = m.calls }

abbrev pub jump_tables_to : List (List ℕ) → Maps → Maps
jump_tables_to x m = record { labels = m.labels; pools = m.pools; jump_tables = x; inline_tables = m.inline_tables; calls = m.calls }

abbrev pub inline_tables_to : List (List ℕ) → Maps → Maps
inline_tables_to x m = record { labels = m.labels; pools = m.pools; jump_tables = m.jump_tables; inline_tables = x; calls = m.calls }

abbrev pub calls_to : List (List ℕ) → Maps → Maps
calls_to x m = record { labels = m.labels; pools = m.pools; jump_tables = m.jump_tables; inline_tables = m.inline_tables; calls = x }

-- an insertion: a map that does not fit the places of its list is refused
abbrev pub entered : ℕ → ℕ → List ℕ → List (List ℕ) → (List (List ℕ) → Maps) → Context → Step
entered stride places row m to c = pick (fits stride places (inserted key_of row m)) (on (with_maps (to (inserted key_of row m)) c)) (refuses ListFull 0)

abbrev pub enter_label : List ℕ → Context → Step
enter_label row c = entered label_row c.given.places.labels row c.maps.labels (λ m. labels_to m c.maps) c

abbrev pub enter_pool : List ℕ → Context → Step
enter_pool row c = entered pool_row c.given.places.pools row c.maps.pools (λ m. pools_to m c.maps) c

abbrev pub enter_jump_table : List ℕ → Context → Step
enter_jump_table row c = entered table_row c.given.places.jump_tables row c.maps.jump_tables (λ m. jump_tables_to m c.maps) c

abbrev pub enter_inline_table : List ℕ → Context → Step
enter_inline_table row c = entered table_row c.given.places.inline_tables row c.maps.inline_tables (λ m. inline_tables_to m c.maps) c

abbrev pub enter_call : List ℕ → Context → Step
enter_call row c = entered call_row c.given.places.calls row c.maps.calls (λ m. calls_to m c.maps) c
