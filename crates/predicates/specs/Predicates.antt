-- functions.rs: what the walk asks of one instruction, in the source's names and order.
-- Assumes nothing.
use Rattle.std.specs.Prelude.{ℕ, ◌+◌, ◌/◌, ◌*◌, ◌%◌, Bool, true, false, not, eqb, ltb, leb, count_ones, ℤ, pos, negsuc, ◌+ℤ◌, Option, Some, None}
use Rattle.classes.specs.declared.Class.TheVariants.{B, Bl, Blx1, Bx, Push, Pop, Mov, Ldm, Stm, Sub, Ldr, Str, Eor, Add}
use Rattle.classes.specs.declared.Cond.TheVariants.{Ne, Al}
use Rattle.arm.specs.declared.Ins.{Ins}
use Rattle.classes.specs.declared.Op2.{Op2}
use Rattle.classes.specs.declared.Op2.TheVariants.{Imm, ShiftImm, ShiftReg}
use Rattle.classes.specs.declared.ShiftOp.{ShiftOp}
use Rattle.classes.specs.declared.ShiftOp.TheVariants.{Lsl, Lsr, Asr, Ror, Rrx}
use Rattle.classes.specs.declared.LdrStrOffset.{LdrStrOffset}
use Rattle.classes.specs.declared.LdrStrOffset.TheVariants.{Imm as Offset-Imm, Reg}
use Rattle.classes.specs.declared.AddrLdrStr.{AddrLdrStr}
use Rattle.classes.specs.declared.AddrLdrStr.TheVariants.{Pre, Post}
use Rattle.classes.specs.declared.LdmStmMode.{LdmStmMode}
use Rattle.classes.specs.declared.LdmStmMode.TheVariants.{Da, Ia, Db, Ib}
use Rattle.classes.specs.Class.{is}
use Rattle.arm.specs.Ins.{is_conditional}
use Rattle.analysis.specs.Pattern.{is_when, is_data, is_lsl, is_register, sp, lr, pc}
use Rattle.base.specs.Choice.{pick, both}
use Rattle.predicates.specs.declared.Previous.{Previous}
use Rattle.predicates.specs.declared.Mode.{Mode}
use Rattle.predicates.specs.declared.Mode.TheVariants.{Arm, Thumb, Other}

-- a register stands in a list
abbrev pub has_lr : ℕ → Bool
has_lr regs = eqb (regs / 0x4000 % 2) 1

abbrev pub has_pc : ℕ → Bool
has_pc regs = eqb (regs / 0x8000 % 2) 1

-- Function::is_entry_instruction as a number, how many registers an unconditional push of LR saves: the ones of its list, and 0 for what is no entry
unfoldable pub saved_registers : Ins → ℕ
saved_registers i = pick (both (not (is_conditional i.cond)) (both (is i.class Push) (has_lr i.regs))) (count_ones i.regs) 0

-- Function::is_entry_instruction
abbrev pub is_entry_instruction : Ins → Bool
is_entry_instruction i = ltb 0 (saved_registers i)

-- Function::is_branch: B alone
abbrev pub is_branch : Ins → Bool
is_branch i = is i.class B

-- Function::is_pool_load: an LDR with a pre-indexed immediate off PC whose target is not PC
abbrev pub is_immediate : LdrStrOffset → Bool
is_immediate (Offset-Imm z) = true
is_immediate (Reg rm op n sub) = false

abbrev pub is_off_pc : AddrLdrStr → Bool
is_off_pc (Pre rn offset w) = both (is_immediate offset) (eqb rn pc)
is_off_pc (Post rn offset) = false

unfoldable pub is_pool_load : Ins → Bool
is_pool_load i = both (is i.class Ldr) (both (is_off_pc i.addr) (not (eqb i.rd pc)))

-- ((address + offset) & !3) + 8: the mask comes after the sum; a sum that leaves 32 bits names no address
abbrev pub immediate_of : LdrStrOffset → ℤ
immediate_of (Offset-Imm z) = z
immediate_of (Reg rm op n sub) = pos 0

abbrev pub offset_of : AddrLdrStr → ℤ
offset_of (Pre rn offset w) = immediate_of offset
offset_of (Post rn offset) = immediate_of offset

unfoldable pub pool_from : ℤ → ℕ
pool_from (pos sum) = pick (ltb sum 0xFFFF_FFF8) (sum / 4 * 4 + 8) 0
pool_from (negsuc n) = 0

unfoldable pub pool_address : ℕ → Ins → ℕ
pool_address address i = pool_from (pos address +ℤ offset_of i.addr)

-- Function::is_function_call: by BL an ARM function, by BLX with an immediate a Thumb one
unfoldable pub is_function_call : Ins → Option Mode
is_function_call i = pick (is i.class Bl) (Some Arm) (pick (is i.class Blx1) (Some Thumb) None)

-- a mode's number in a row of the calls
abbrev pub mode_no : Mode → ℕ
mode_no Arm = 0
mode_no Thumb = 1
mode_no (Other number) = number

-- it has one of those two names
abbrev pub is_named : Mode → Bool
is_named (Other number) = false
is_named mode = true

-- is_return of an instruction that is not conditional, in the source's order
abbrev pub is_ia : LdmStmMode → Bool
is_ia Da = false
is_ia Ia = true
is_ia Db = false
is_ia Ib = false

abbrev pub is_ror : ShiftOp → Bool
is_ror Lsl = false
is_ror Lsr = false
is_ror Asr = false
is_ror Ror = true
is_ror Rrx = false

abbrev pub is_ror_by_register : Op2 → Bool
is_ror_by_register (Imm v) = false
is_ror_by_register (ShiftImm rm op n) = false
is_ror_by_register (ShiftReg rm op rs) = is_ror op

abbrev pub is_lsl_by_number : Op2 → Bool
is_lsl_by_number (Imm v) = false
is_lsl_by_number (ShiftImm rm op n) = is_lsl op
is_lsl_by_number (ShiftReg rm op rs) = false

abbrev pub is_four : Op2 → Bool
is_four (Imm v) = eqb v 4
is_four (ShiftImm rm op n) = false
is_four (ShiftReg rm op rs) = false

-- bx *
abbrev pub is_bx : Ins → Bool
is_bx i = is_when i Bx Al

-- mov pc, *
unfoldable pub is_mov_pc : Ins → Bool
is_mov_pc i = both (is_data i Mov Al false) (eqb i.rd pc)

-- ldmia *, {.., pc}
unfoldable pub is_ldm_pc : Ins → Bool
is_ldm_pc i = both (is_when i Ldm Al) (both (is_ia i.mode) (has_pc i.regs))

-- pop {.., pc}
unfoldable pub is_pop_pc : Ins → Bool
is_pop_pc i = both (is_when i Pop Al) (has_pc i.regs)

-- a branch backwards, or to itself
unfoldable pub is_branch_back : ℕ → Ins → Bool
is_branch_back address i = both (is_when i B Al) (leb i.target address)

-- subs pc, lr, *
unfoldable pub is_subs_pc_lr : Ins → Bool
is_subs_pc_lr i = both (is_data i Sub Al true) (both (eqb i.rd pc) (eqb i.rn lr))

-- ldr pc, *
unfoldable pub is_ldr_pc : Ins → Bool
is_ldr_pc i = both (is_when i Ldr Al) (eqb i.rd pc)

-- eor pc, *, *, ror *
unfoldable pub is_eor_pc : Ins → Bool
is_eor_pc i = both (is_data i Eor Al false) (both (eqb i.rd pc) (is_ror_by_register i.op2))

-- add pc, *, *, lsl #*, but for the jump into a table
unfoldable pub is_add_pc : Ins → Bool
is_add_pc i = both (is_data i Add Al false) (both (eqb i.rd pc) (both (is_lsl_by_number i.op2) (not (eqb i.rn pc))))

unfoldable pub is_return_always : ℕ → Ins → Bool
is_return_always address i =
    pick (is_bx i) true
    (pick (is_mov_pc i) true
    (pick (is_ldm_pc i) true
    (pick (is_pop_pc i) true
    (pick (is_branch_back address i) true
    (pick (is_subs_pc_lr i) true
    (pick (is_ldr_pc i) true
    (pick (is_eor_pc i) true (is_add_pc i))))))))

-- adds r0, r0, #4
unfoldable pub is_adds_four : Ins → Bool
is_adds_four i = both (is_data i Add Al true) (both (eqb i.rd 0) (both (eqb i.rn 0) (is_four i.op2)))

-- adds r0, r0, #4 and then bne: the source takes this for a return
unfoldable pub is_return_after : Ins → Previous → Bool
is_return_after i previous = both (is_when i B Ne) previous.is_adds_four

unfoldable pub is_return : ℕ → Ins → Previous → Bool
is_return address i previous = pick (is_conditional i.cond) (is_return_after i previous) (is_return_always address i)

-- is_nop: mov rx, rx
unfoldable pub is_nop : Ins → Bool
is_nop i = both (is i.class Mov) (both (not i.s) (is_register i.op2 i.rd))

-- is_push: a push, or a block store on SP
unfoldable pub is_push : Ins → Bool
is_push i = pick (is i.class Push) true (both (is i.class Stm) (eqb i.rn sp))

-- str rd, [sp, #offset] without write-back
abbrev pub is_off_sp : AddrLdrStr → Bool
is_off_sp (Pre rn offset w) = both (is_immediate offset) (both (eqb rn sp) (not w))
is_off_sp (Post rn offset) = false

unfoldable pub is_stack_store : Ins → Bool
is_stack_store i = both (is i.class Str) (is_off_sp i.addr)

-- prev_ins, as far as the walk asks
unfoldable pub as_previous : Ins → Previous
as_previous i = record { is_branch = is_branch i; is_conditional = is_conditional i.cond; is_adds_four = is_adds_four i }
