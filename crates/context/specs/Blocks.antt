-- functions.rs: `handle_ins` and `handle_label`, block by block, in the source's order. Each block has the source's line or condition above it,
-- and behind what it asks and does. `i` is the instruction, `size` its bytes, `inside` is in_conditional_block, `returns` is is_return.
-- Assumes nothing.
use Rattle.std.specs.Prelude.{Bool, true, false, not, List, [], ◌∷◌, ℕ, ◌+◌, eqb, ltb, leb, get_or}
use Rattle.std.specs.Prelude.{Option as Optional, Some, None, Result, Ok, Err}
use Rattle.std.proofs.Math.Option.{Option, none, some}
use Rattle.analysis.specs.declared.illegal_code.IllegalCodeState.{IllegalCodeState}
use Rattle.analysis.specs.declared.illegal_code.IllegalCodeState.TheVariants.{Start, ShiftedRegisterValue, Illegal}
use Rattle.analysis.specs.declared.inline_table.InlineTable.{InlineTable}
use Rattle.analysis.specs.declared.inline_table.InlineTableState.{InlineTableState}
use Rattle.analysis.specs.IllegalCode.{illegal_code as code_machine}
use Rattle.analysis.specs.FunctionBranch.{function_branch, is_function_branch}
use Rattle.analysis.specs.InlineTable.{inline_table as inline_machine, table_of}
use Rattle.analysis.specs.JumpTable.{Answer, jump_table as jump_machine, table_end}
use Rattle.arm.specs.declared.Ins.{Ins}
use Rattle.arm.specs.Ins.{decode_of, is_conditional}
use Rattle.base.specs.Choice.{pick, both, either}
use Rattle.base.specs.declared.refusal.Refusal.{Refusal}
use Rattle.base.specs.declared.refusal.Refusal.TheVariants.{BranchOutside, PoolOutside, UndefinedRegister, Beyond32Bits}
use Rattle.base.specs.Words.{word_from}
use Rattle.predicates.specs.declared.Mode.{Mode}
use Rattle.predicates.specs.declared.Mode.TheVariants.{Arm, Thumb, Other}
use Rattle.predicates.specs.Predicates.{is_branch, is_bx, is_return, saved_registers, is_entry_instruction, is_pool_load, pool_address, is_function_call, as_previous}
use Rattle.registers.specs.Registers.{forgotten, holding, source_of}
use Rattle.rows.specs.Rows.{rank, stands, inserted}
use Rattle.rows.specs.Map.{key_of, stands-in, at_or_above}
use Rattle.rows.specs.Run.{gap_from}
use Rattle.walk.specs.Checking.{undefined_register, defined_after}
use Rattle.context.specs.Context.{Context, Step, on, goes, ends, refuses, ◌▸◌, going_to, with_progress, with_machines, with_registers, with_maps}
use Rattle.context.specs.Context.{raising, table_to, pool_to, defining, counting, moving, jump_table_to, function_branch_to, inline_table_to, illegal_code_to, pools_to}
use Rattle.context.specs.Context.{enter_label, enter_pool, enter_jump_table, enter_inline_table, enter_call}

-- a call's mode
abbrev pub arm : ℕ
arm = 0

abbrev pub thumb : ℕ
thumb = 1

-- PoolConstantUsage
abbrev pub other : ℕ
other = 0

abbrev pub call : ℕ
call = 1

-- (from..to).contains(&address)
unfoldable pub is_in : ℕ → ℕ → ℕ → Bool
is_in from to a = pick (ltb a from) false (ltb a to)

-- ---- data among the instructions

-- if self.pool_constants.contains_key(&address)
unfoldable pub skip_pool : Context → Step
skip_pool c = pick (stands-in c.maps.pools c.progress.address) (goes (going_to (c.progress.address + 4) c)) (on c)

-- Function::inline_table_at: the first table that holds the address
abbrev pub table_end_at : List ℕ → ℕ
table_end_at table = key_of table + get_or table 1 0

abbrev pub is_within : ℕ → List ℕ → Bool
is_within a table = both (leb (key_of table) a) (ltb a (table_end_at table))

unfoldable pub inline_table_at : ℕ → List (List ℕ) → Option (List ℕ)
inline_table_at a [] = none
inline_table_at a (t ∷ ts) = pick (is_within a t) (some t) (inline_table_at a ts)

-- if let Some(inline_table) = ..; an end that leaves 32 bits is refused
abbrev pub skips_to : Option (List ℕ) → Context → Step
skips_to none c = on c
skips_to (some table) c = pick (ltb (table_end_at table) 0x1_0000_0000) (goes (going_to (table_end_at table) c)) (refuses Beyond32Bits 0)

unfoldable pub skip_inline_table : Context → Step
skip_inline_table c = skips_to (inline_table_at c.progress.address c.maps.inline_tables) c

-- ---- the jump table

-- if let Some(table_end_address) = self.jump_table_state.table_end_address()
abbrev pub raised_to_table : Result (Optional ℕ) Refusal → Context → Step
raised_to_table (Ok (Some end)) c = on (with_progress (table_to end (raising end c.progress)) c)
raised_to_table (Ok None) c = on c
raised_to_table (Err refusal) c = refuses refusal 0

module _ (i : Ins) where
  -- self.jump_table_state = self.jump_table_state.handle(..)
  abbrev pub after_jump : Answer → Context → Step
  after_jump (Ok (s, None)) c = raised_to_table (table_end s) (with_machines (jump_table_to s c.machines) c)
  after_jump (Ok (s, Some t)) c =
      enter_jump_table (t.address ∷ t.size ∷ []) (with_machines (jump_table_to s c.machines) c) ▸ raised_to_table (table_end s)
  after_jump (Err refusal) c = refuses refusal 0

  unfoldable pub jump_table : Context → Step
  jump_table c = after_jump (jump_machine c.machines.jump_table c.progress.address i) c

-- get_labels and is_numerical_jump_offset are Thumb's

-- ---- illegal code, and a branch out of the program. The functions found before (an empty map here) have no part in it

-- if let IllegalCodeState::Illegal { reason } = ..
abbrev pub after_code : IllegalCodeState → Context → Step
after_code Start c = on c
after_code (ShiftedRegisterValue r) c = on c
after_code (Illegal reason) c = refuses reason 0

-- with the machine's next state
abbrev pub coded : IllegalCodeState → Context → Step
coded s c = after_code s (with_machines (illegal_code_to s c.machines) c)

module _ (i : Ins) where
  -- self.illegal_code_state = self.illegal_code_state.handle(..)
  unfoldable pub illegal_code : Context → Step
  illegal_code c = coded (code_machine c.machines.illegal_code i) c

  -- if !(0x01ff8000..0x03000000).contains(&destination)
  unfoldable pub branch_outside : Context → Step
  branch_outside c = pick (both (is_branch i) (not (is_in 0x01FF_8000 0x0300_0000 i.target))) (refuses BranchOutside 0) (on c)

-- ---- the registers

-- pool_constants.get_mut(pool_address).usage = PoolConstantUsage::Call; the checks before a step see to it that the pool is there
unfoldable pub marked : ℕ → List (List ℕ) → List (List ℕ)
marked a m = pick (stands key_of a m) (inserted key_of (a ∷ get_or (get_or m (rank key_of a m) []) 1 0 ∷ call ∷ []) m) m

module _ (i : Ins) where
  -- Ins::Bx { cond: Cond::Al, rm }: the pool word that the register came from
  unfoldable pub mark_pool : Context → Step
  mark_pool c =
      pick (both (is_bx i) (not (eqb (source_of c.registers i.rm) 0)))
      (on (with_maps (pools_to (marked (source_of c.registers i.rm) c.maps.pools) c.maps) c))
      (on c)

  -- for def in ins.defs()
  unfoldable pub forget_written : Context → Step
  forget_written c = on (with_registers (forgotten c.registers i.defs) c)

  -- handle_ins_inner up to here
  unfoldable pub to_return : Context → Step
  to_return c = skip_pool c ▸ skip_inline_table ▸ jump_table i ▸ illegal_code i ▸ branch_outside i ▸ mark_pool ▸ forget_written

-- ---- the return

-- let in_conditional_block
unfoldable pub in_conditional_block : Context → Bool
in_conditional_block c = ltb c.progress.address c.progress.last_conditional_destination

-- is_long_branch_destination: function_calls.values().any(|called| called.address == address)
unfoldable pub is_destination : ℕ → List (List ℕ) → Bool
is_destination a [] = false
is_destination a (r ∷ rs) = pick (eqb (get_or r 2 0) a) true (is_destination a rs)

-- is_entry_instruction_at, as a number
abbrev pub saved_by_word : Optional ℕ → ℕ → ℕ
saved_by_word (Some w) a = saved_registers (decode_of w a)
saved_by_word None a = 0

unfoldable pub saved_at : List ℕ → ℕ → ℕ → ℕ
saved_at code base a = saved_by_word (word_from code base a) a

-- is_entry_instruction_at
abbrev pub is_entry_at : List ℕ → ℕ → ℕ → Bool
is_entry_at code base a = ltb 0 (saved_at code base a)

-- is_long_branch_destination
unfoldable pub is_long_branch_destination : ℕ → Context → Bool
is_long_branch_destination a c =
    both (ltb a c.progress.last_pool_address)
    (both (is_destination a c.maps.calls) (not (is_entry_at c.given.code c.given.options.base a)))

module _ (i : Ins) where
  -- function_calls.insert(address, CalledFunction { .. })
  abbrev pub call_to : ℕ → ℕ → Context → Step
  call_to word mode c = enter_call (c.progress.address ∷ word ∷ i.target ∷ mode ∷ []) c

  -- if let Some(destination) = Function::is_branch(ins): outside_function
  unfoldable pub is_tail_call : ℕ → Context → Bool
  is_tail_call size c = both (is_branch i) (either (ltb i.target c.progress.start) (leb (c.progress.address + size) i.target))

  -- if !in_conditional_block && is_return
  unfoldable pub final_return : ℕ → ℕ → Bool → Bool → Context → Step
  final_return word size inside returns c =
      pick (both (not inside) returns)
      (pick (is_long_branch_destination (c.progress.address + size) c)
      (on (with_progress (raising (c.progress.address + size) c.progress) c))
      (pick (is_tail_call size c) (call_to word arm c) (on c) ▸ ends (c.progress.address + size)))
      (on c)

  -- if address > self.start_address && Function::is_entry_instruction(ins) && .. prev_ins ..
  unfoldable pub entry_after_branch : Bool → Context → Step
  entry_after_branch inside c =
      pick
      (both (ltb c.progress.start c.progress.address)
      (both (is_entry_instruction i)
      (both c.progress.previous.is_branch (either inside c.progress.previous.is_conditional))))
      (ends c.progress.address c)
      (on c)

-- ---- handle_label

module _ (i : Ins) where
  -- if in_conditional_block || ins.is_conditional() || is_table_jump
  unfoldable pub raises_label : Bool → Context → Bool
  raises_label inside c = either inside (either (is_conditional i.cond) (ltb c.progress.address c.progress.jump_table_end_address))

  -- last_conditional_destination.max(Some(destination))
  unfoldable pub label_raised : Bool → Context → Context
  label_raised inside c = pick (raises_label inside c) (with_progress (raising i.target c.progress) c) c

-- (next_address..).step_by(4).find(..); pools that run to the end of 32 bits are none that the checks before a step let pass
abbrev pub past_gap : Optional ℕ → Context → Step
past_gap (Some after) c = on (going_to after c)
past_gap None c = refuses Beyond32Bits 0

module _ (i : Ins) where
  -- self.labels.range(parser.pc()..).next(); else if !branch_backwards; else
  abbrev pub to_label : ℕ → Optional ℕ → Context → Step
  to_label size (Some k) c = on (going_to (key_of (get_or c.maps.labels k [])) c)
  to_label size None c =
      pick (ltb c.progress.address i.target)
      (ends (c.progress.address + size) c)
      (past_gap (gap_from (stands-in c.maps.pools) (c.progress.address + size)) c)

  -- if self.pool_constants.contains_key(&next_address); c.next is parser.pc()
  unfoldable pub past_pools : ℕ → Context → Step
  past_pools size c = pick (stands-in c.maps.pools (c.progress.address + size)) (to_label size (at_or_above c.next c.maps.labels) c) (on c)

  -- self.labels.insert(destination); the raise; the jump past pools
  unfoldable pub handle_label : ℕ → Bool → Context → Step
  handle_label size inside c = enter_label (i.target ∷ []) c ▸ (λ c. past_pools size (label_raised i inside c))

-- ---- the branch

module _ (i : Ins) where
  -- self.function_branch_state = self.function_branch_state.handle(ins)
  unfoldable pub branched : Context → Context
  branched c = with_machines (function_branch_to (function_branch c.machines.function_branch i) c.machines) c

  -- is_function_branch() || existing_functions.contains_key(&destination)
  unfoldable pub is_other_function : Context → Bool
  is_other_function c = either (is_function_branch c.machines.function_branch) (stands-in c.given.starts i.target)

  -- in_current_module: another function's, where the branch ends this one or is a call, or a label; out of the module a call
  unfoldable pub branches : ℕ → ℕ → Bool → Context → Step
  branches word size inside c =
      pick (is_in c.given.options.module_start c.given.options.module_end i.target)
      (pick (is_other_function c)
      (pick (both (not (is_conditional i.cond)) (not inside)) (ends (c.progress.address + size) c) (call_to i word arm c))
      (handle_label i size inside c))
      (call_to i word arm c)

  -- if let Some(destination) = Function::is_branch(ins)
  unfoldable pub branch : ℕ → ℕ → Bool → Context → Step
  branch word size inside c = pick (is_branch i) (branches word size inside (branched c)) (on (branched c))

-- ---- the pool load

module _ (i : Ins) where
  -- register_values[register] = ..; pool_constants.insert(..); last_pool_address = ..
  abbrev pub loaded : ℕ → Optional ℕ → Context → Step
  loaded a None c = refuses PoolOutside 0
  loaded a (Some value) c =
      enter_pool (a ∷ value ∷ other ∷ []) (with_registers (holding c.registers i.rd value a) c)
      ▸ (λ c. on (with_progress (pool_to a c.progress) c))

  -- if let Some((pool_address, register)) = Function::is_pool_load(..)
  unfoldable pub pool_load : Context → Step
  pool_load c =
      pick (is_pool_load i)
      (loaded (pool_address c.progress.address i) (word_from c.given.code c.given.options.base (pool_address c.progress.address i)) c)
      (on c)

-- ---- the inline table

-- if let Some(table) = self.inline_table_state.get_table()
abbrev pub tabled : Optional InlineTable → Context → Step
tabled (Some t) c = enter_inline_table (t.address ∷ t.size ∷ []) c
tabled None c = on c

module _ (i : Ins) where
  -- self.inline_table_state = self.inline_table_state.handle(..)
  abbrev pub after_inline : Result InlineTableState Refusal → Context → Step
  after_inline (Ok s) c = tabled (table_of s) (with_machines (inline_table_to s c.machines) c)
  after_inline (Err refusal) c = refuses refusal 0

  unfoldable pub inline_table : Context → Step
  inline_table c = after_inline (inline_machine c.machines.inline_table false c.progress.address i) c

-- ---- the call, and the check of registers. Encrypted ranges (none here) have no part in it

module _ (i : Ins) where
  -- if let Some(called_function) = Function::is_function_call(..)
  abbrev pub called_as : ℕ → Optional Mode → Context → Step
  called_as word None c = on c
  called_as word (Some Arm) c = call_to i word arm c
  called_as word (Some Thumb) c = call_to i word thumb c
  called_as word (Some (Other mode)) c = call_to i word mode c

  unfoldable pub function_call : ℕ → Context → Step
  function_call word c = called_as word (is_function_call i) c

  -- if self.check_defs_uses && !Self::is_nop(ins)
  abbrev pub checked_by : ℕ → Bool → Context → Step
  checked_by register returns c =
      pick (ltb register 16) (refuses UndefinedRegister register)
      (on (with_progress (defining (defined_after c.given.options.check c.progress.defined_registers i returns) c.progress) c))

  unfoldable pub check_defined : Bool → Context → Step
  check_defined returns c = checked_by (undefined_register c.given.options.check c.progress.defined_registers i) returns c

-- ---- handle_ins_inner, and handle_ins

module _ (i : Ins) where
  -- the rest of handle_ins_inner, with in_conditional_block and is_return as they were before it
  unfoldable pub from_return : ℕ → ℕ → Bool → Bool → Context → Step
  from_return word size inside returns c =
      final_return i word size inside returns c ▸ entry_after_branch i inside ▸ branch i word size inside ▸ pool_load i ▸ inline_table i ▸ function_call i word
      ▸ check_defined i returns

  -- handle_ins_inner
  unfoldable pub handle_ins_inner : ℕ → ℕ → Context → Step
  handle_ins_inner word size c =
      to_return i c ▸ (λ c. from_return word size (in_conditional_block c) (is_return c.progress.address i c.progress.previous) c)

  -- self.prev_ins = Some(ins), and the next turn is at the parser's address. An instruction that has come past every block makes the sum bytes;
  -- data that was skipped adds none
  abbrev pub passed : ℕ → Step → Step
  passed bytes (on c) = goes (with_progress (moving c.next (as_previous i) (counting bytes c.progress)) c)
  passed bytes (goes c) = goes (with_progress (moving c.next (as_previous i) c.progress) c)
  passed bytes (ends a c) = ends a c
  passed bytes (refuses n r) = refuses n r

  -- handle_ins: the parser has passed the instruction, so its address is the next one's
  unfoldable pub handle_ins : ℕ → ℕ → Context → Step
  handle_ins word size c =
      passed (c.progress.instruction_bytes + size) (handle_ins_inner word size (going_to (c.progress.address + size) c))
