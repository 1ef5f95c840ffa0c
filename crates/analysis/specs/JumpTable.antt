-- jump_table.rs, JumpTableStateArm: `check_start`, `handle` and `table_end_address`, case by case in the source's order. A table whose size
-- or end leaves 32 bits is refused.
-- Assumes nothing.
use Rattle.std.specs.Prelude.{ℕ, ◌+◌, ◌*◌, Bool, true, false, eqb, ltb, Option, Some, None, Result, Ok, Err}
use Rattle.classes.specs.declared.Class.TheVariants.{Cmp, Add, B, Pop}
use Rattle.classes.specs.declared.Cond.{Cond}
use Rattle.classes.specs.declared.Cond.TheVariants.{Hi, Ls, Ge, Gt, Al}
use Rattle.arm.specs.declared.Ins.{Ins}
use Rattle.classes.specs.declared.Op2.{Op2}
use Rattle.classes.specs.declared.Op2.TheVariants.{Imm, ShiftImm, ShiftReg}
use Rattle.analysis.specs.declared.jump_table.JumpTableStateArm.{JumpTableStateArm}
use Rattle.analysis.specs.declared.jump_table.JumpTableStateArm.TheVariants.{CmpReg, JumpOrBranchSigned, SignedBaseline, JumpSigned, JumpAfterReturn, ValidJumpTable}
use Rattle.analysis.specs.declared.jump_table.JumpTable.{JumpTable}
use Rattle.base.specs.declared.refusal.Refusal.{Refusal}
use Rattle.base.specs.declared.refusal.Refusal.TheVariants.{Beyond32Bits}
use Rattle.analysis.specs.Pattern.{is_when, is_data, is_scaled, pc}
use Rattle.base.specs.Choice.{pick, both}

-- the next state, and the table to record
abbrev pub Answer : Type 0
Answer = Result (JumpTableStateArm × Option JumpTable) Refusal

abbrev pub next : JumpTableStateArm → Answer
next s = Ok (s, None)

-- the immediate that a compare tests against; 0 where it is a register
abbrev pub limit_of : Op2 → ℕ
limit_of (Imm v) = v
limit_of (ShiftImm rm op n) = 0
limit_of (ShiftReg rm op rs) = 0

abbrev pub is_limit : Op2 → Bool
is_limit (Imm v) = true
is_limit (ShiftImm rm op n) = false
is_limit (ShiftReg rm op rs) = false

-- cmp index, #limit, with a positive limit
unfoldable pub check_start : Ins → Bool
check_start i = both (is_when i Cmp Al) (ltb 0 (limit_of i.op2))

-- cmp index, #limit: its limit
abbrev pub limit_in : Ins → Option ℕ
limit_in i = pick (both (is_when i Cmp Al) (is_limit i.op2)) (Some (limit_of i.op2)) None

-- cmp index, #limit
unfoldable pub compared : Ins → Answer
compared i = pick (both (is_when i Cmp Al) (is_limit i.op2)) (next (JumpOrBranchSigned i.rn (limit_of i.op2))) (next CmpReg)

-- add pc, pc, index, lsl #2
unfoldable pub is_jump : Ins → Cond → ℕ → Bool
is_jump i c index = both (is_data i Add c false) (both (eqb i.rd pc) (both (eqb i.rn pc) (is_scaled i.op2 index)))

-- the table: (limit + 1) * 4 bytes at address + 8
unfoldable pub found : ℕ → ℕ → Answer
found address limit =
    pick (ltb (address + 8 + (limit + 1) * 4) 0x1_0000_0000)
    (Ok (ValidJumpTable (address + 8) limit, Some (record { address = address + 8; size = (limit + 1) * 4 })))
    (Err Beyond32Bits)

-- addls; bgt; pophi; flags set anew
unfoldable pub jump_or_branch : ℕ → ℕ → ℕ → Ins → Answer
jump_or_branch index limit address i =
    pick (is_jump i Ls index) (found address limit)
    (pick (is_when i B Gt) (next (SignedBaseline index limit))
    (pick (is_when i Pop Hi) (next (JumpAfterReturn index limit))
    (pick i.updates_condition_flags (next CmpReg) (next (JumpOrBranchSigned index limit)))))

-- cmp index, #0
unfoldable pub is_zero_limit : Ins → ℕ → Bool
is_zero_limit i index = both (is_when i Cmp Al) (both (is_limit i.op2) (both (eqb (limit_of i.op2) 0) (eqb i.rn index)))

unfoldable pub signed_baseline : ℕ → ℕ → Ins → Answer
signed_baseline index limit i = pick (is_zero_limit i index) (next (JumpSigned index limit)) (next CmpReg)

-- addge, add; flags set anew
unfoldable pub jump_at : JumpTableStateArm → Cond → ℕ → ℕ → ℕ → Ins → Answer
jump_at stay c index limit address i =
    pick (is_jump i c index) (found address limit) (pick i.updates_condition_flags (next CmpReg) (next stay))

-- past its last entry the table is no longer current
unfoldable pub valid_table : ℕ → ℕ → ℕ → Answer
valid_table table limit address = pick (ltb (table + limit * 4) address) (next CmpReg) (next (ValidJumpTable table limit))

abbrev pub in_state : JumpTableStateArm → ℕ → Ins → Answer
in_state CmpReg address i = compared i
in_state (JumpOrBranchSigned index limit) address i = jump_or_branch index limit address i
in_state (SignedBaseline index limit) address i = signed_baseline index limit i
in_state (JumpSigned index limit) address i = jump_at (JumpSigned index limit) Ge index limit address i
in_state (JumpAfterReturn index limit) address i = jump_at (JumpAfterReturn index limit) Al index limit address i
in_state (ValidJumpTable table limit) address i = valid_table table limit address

unfoldable pub jump_table : JumpTableStateArm → ℕ → Ins → Answer
jump_table s address i = pick (check_start i) (next (JumpOrBranchSigned i.rn (limit_of i.op2))) (in_state s address i)

unfoldable pub end_of_entries : ℕ → ℕ → Result (Option ℕ) Refusal
end_of_entries table limit = pick (ltb (table + (limit + 1) * 4) 0x1_0000_0000) (Ok (Some (table + (limit + 1) * 4))) (Err Beyond32Bits)

abbrev pub table_end : JumpTableStateArm → Result (Option ℕ) Refusal
table_end CmpReg = Ok None
table_end (JumpOrBranchSigned index limit) = Ok None
table_end (SignedBaseline index limit) = Ok None
table_end (JumpSigned index limit) = Ok None
table_end (JumpAfterReturn index limit) = Ok None
table_end (ValidJumpTable table limit) = end_of_entries table limit
