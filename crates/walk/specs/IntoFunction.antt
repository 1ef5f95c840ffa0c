-- functions.rs: `new`, `into_function`, and the start before a pool.
-- Assumes nothing.
use Rattle.std.specs.Prelude.{ℕ, ◌+◌, max, false, eqb, ltb, replicate, Option, Some, None}
use Rattle.base.specs.declared.refusal.Refusal.TheVariants.{NoEpilogue}
use Rattle.base.specs.Choice.{pick}
use Rattle.analysis.specs.declared.illegal_code.IllegalCodeState.TheVariants.{Start as I-Start}
use Rattle.analysis.specs.declared.function_branch.FunctionBranchState.TheVariants.{Start as F-Start}
use Rattle.analysis.specs.declared.inline_table.InlineTableState.TheVariants.{Start as T-Start}
use Rattle.analysis.specs.declared.jump_table.JumpTableStateArm.TheVariants.{CmpReg}
use Rattle.walk.specs.declared.Answer.{Answer}
use Rattle.walk.specs.declared.Answer.TheVariants.{Going, Accepted, Refused}
use Rattle.walk.specs.declared.Counts.{Counts}
use Rattle.walk.specs.declared.Options.{Options}
use Rattle.walk.specs.declared.Walk.{Walk}

-- new: nothing found; r0 to r3, r10 to r12, SP, LR and PC defined
unfoldable pub begun : ℕ → Counts → Walk
begun start n = record {
  progress = record {
    start = start;
    address = start;
    last_conditional_destination = 0;
    last_pool_address = 0;
    jump_table_end_address = 0;
    defined_registers = 0b1111_1100_0000_1111;
    saved_registers = 0;
    instruction_bytes = 0;
    previous = record { is_branch = false; is_conditional = false; is_adds_four = false };
  };
  machines = record { jump_table = CmpReg; function_branch = F-Start; inline_table = T-Start; illegal_code = I-Start };
  registers = record { values = replicate 16 0; sources = replicate 16 0 };
  counts = n;
  result = Going;
}

-- the known end, or the larger of the last instruction's end and the last pool's
abbrev pub end_address : Option ℕ → ℕ → ℕ → ℕ
end_address (Some end) last pool = end
end_address None last pool = pick (eqb pool 0) last (max last (pool + 4))

-- the first pool where that lies below the start
unfoldable pub start_of : ℕ → ℕ → ℕ
start_of start pool = pick (eqb pool 0) start (pick (ltb pool start) pool start)

-- the record, unless it ends past the module
abbrev pub record_to : ℕ → ℕ → ℕ → ℕ → ℕ → ℕ → Answer
record_to module_end start last pool saved end =
    pick (ltb module_end end) (Refused NoEpilogue 0 0)
    (Accepted (record {
      start = start_of start pool;
      end = end;
      first_instruction = start;
      last_instruction_end = last;
      saved_registers = saved;
    }))

unfoldable pub into_function : Options → ℕ → ℕ → ℕ → ℕ → ℕ → Answer
into_function o start last last_pool first_pool saved =
    record_to o.module_end start last first_pool saved (end_address o.known_end last last_pool)
