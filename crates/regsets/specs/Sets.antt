-- The registers that an instruction reads and writes, and whether it sets condition flags, from the Operation sections of the manual
-- (chapters A4 and A10). A set is a number with bit r for register r.
-- Assumes nothing.
use Rattle.std.specs.Prelude.{ℕ, ◌+◌, ◌*◌, ◌/◌, ◌%◌, ◌^◌, Bool, true, false, eqb}
use Rattle.std.specs.Int.Bits.{bit_or}
use Rattle.classes.specs.declared.Class.{Class}
use Rattle.classes.specs.declared.Class.TheVariants.{Adc, Add, And, B, Bic, Bkpt, Bl, Blx1, Blx2, Bx, Cdp, Clz, Cmn, Cmp, Eor, Ldc}
use Rattle.classes.specs.declared.Class.TheVariants.{Ldm, Ldr, Ldrb, Ldrbt, Ldrd, Ldrh, Ldrsb, Ldrsh, Ldrt, Mcr, Mcrr, Mla, Mov, Mrc}
use Rattle.classes.specs.declared.Class.TheVariants.{Mrrc, Mrs, Msr, Mul, Mvn, Orr, Pld, Qadd, Qdadd, Qdsub, Qsub, Rsb, Rsc, Sbc}
use Rattle.classes.specs.declared.Class.TheVariants.{Smlal, Smlalxy, Smlawy, Smlaxy, Smull, Smulwy, Smulxy, Stc, Stm, Str, Strb}
use Rattle.classes.specs.declared.Class.TheVariants.{Strbt, Strd, Strh, Strt, Sub, Swi, Swp, Swpb, Teq, Tst, Umlal, Umull, Push, Pop}
use Rattle.classes.specs.declared.Class.TheVariants.{Lsl, Lsr, Asr, Ror, Illegal}
use Rattle.classes.specs.declared.Form.{Form}
use Rattle.classes.specs.declared.Form.TheVariants.{Compute, Compare, Move, Multiply, MultiplyAdd, MultiplyLong, MultiplyAddLong}
use Rattle.classes.specs.declared.Form.TheVariants.{Saturate, CountZeros, Branch, BranchLink, BranchRegister, BranchLinkRegister}
use Rattle.classes.specs.declared.Form.TheVariants.{Trap, Load, Store, Preload, LoadExtra, StoreExtra, LoadDouble, StoreDouble}
use Rattle.classes.specs.declared.Form.TheVariants.{LoadBlock, StoreBlock, Swap, StatusRead, StatusWrite, CoprocessorTransfer}
use Rattle.classes.specs.declared.Form.TheVariants.{ToCoprocessor, FromCoprocessor, PairToCoprocessor, PairFromCoprocessor, Nothing}
use Rattle.classes.specs.Fields.{bit, rn_of, rd_of, rs_of, rm_of}

-- the form of an instruction's operands; it is asked of the manual's instruction, never of a name that the rules give
unfoldable pub form_of : Class → Form
form_of Adc = Compute
form_of Add = Compute
form_of And = Compute
form_of B = Branch
form_of Bic = Compute
form_of Bkpt = Trap
form_of Bl = BranchLink
form_of Blx1 = BranchLink
form_of Blx2 = BranchLinkRegister
form_of Bx = BranchRegister
form_of Cdp = Nothing
form_of Clz = CountZeros
form_of Cmn = Compare
form_of Cmp = Compare
form_of Eor = Compute
form_of Ldc = CoprocessorTransfer
form_of Ldm = LoadBlock
form_of Ldr = Load
form_of Ldrb = Load
form_of Ldrbt = Load
form_of Ldrd = LoadDouble
form_of Ldrh = LoadExtra
form_of Ldrsb = LoadExtra
form_of Ldrsh = LoadExtra
form_of Ldrt = Load
form_of Mcr = ToCoprocessor
form_of Mcrr = PairToCoprocessor
form_of Mla = MultiplyAdd
form_of Mov = Move
form_of Mrc = FromCoprocessor
form_of Mrrc = PairFromCoprocessor
form_of Mrs = StatusRead
form_of Msr = StatusWrite
form_of Mul = Multiply
form_of Mvn = Move
form_of Orr = Compute
form_of Pld = Preload
form_of Qadd = Saturate
form_of Qdadd = Saturate
form_of Qdsub = Saturate
form_of Qsub = Saturate
form_of Rsb = Compute
form_of Rsc = Compute
form_of Sbc = Compute
form_of Smlal = MultiplyAddLong
form_of Smlalxy = MultiplyAddLong
form_of Smlawy = MultiplyAdd
form_of Smlaxy = MultiplyAdd
form_of Smull = MultiplyLong
form_of Smulwy = Multiply
form_of Smulxy = Multiply
form_of Stc = CoprocessorTransfer
form_of Stm = StoreBlock
form_of Str = Store
form_of Strb = Store
form_of Strbt = Store
form_of Strd = StoreDouble
form_of Strh = StoreExtra
form_of Strt = Store
form_of Sub = Compute
form_of Swi = Trap
form_of Swp = Swap
form_of Swpb = Swap
form_of Teq = Compare
form_of Tst = Compare
form_of Umlal = MultiplyAddLong
form_of Umull = MultiplyLong
form_of Push = StoreBlock
form_of Pop = LoadBlock
form_of Lsl = Move
form_of Lsr = Move
form_of Asr = Move
form_of Ror = Move
form_of Illegal = Nothing

-- a when bit i of w is set, else b
unfoldable pub if_bit : {A : Type 0} → ℕ → ℕ → A → A → A
if_bit i w a b = elim (eqb (bit i w) 1) [ true ↦ a | false ↦ b ]

-- one register
abbrev pub rn_set : ℕ → ℕ
rn_set w = 2 ^ rn_of w

abbrev pub rd_set : ℕ → ℕ
rd_set w = 2 ^ rd_of w

abbrev pub rs_set : ℕ → ℕ
rs_set w = 2 ^ rs_of w

abbrev pub rm_set : ℕ → ℕ
rm_set w = 2 ^ rm_of w

abbrev lr : ℕ
lr = 2 ^ 14

abbrev pc : ℕ
pc = 2 ^ 15

-- A5.1: an immediate reads no register; a shift reads Rm, and by a register Rs too
unfoldable pub shifter_set : ℕ → ℕ
unfolding if_bit
shifter_set w = if_bit 25 w 0 (if_bit 4 w (bit_or (rm_set w) (rs_set w)) (rm_set w))

-- A5.2: bit 25 tells a register offset; A5.3: bit 22 tells an immediate one
unfoldable pub offset2_set : ℕ → ℕ
unfolding if_bit
offset2_set w = if_bit 25 w (rm_set w) 0

unfoldable pub offset3_set : ℕ → ℕ
unfolding if_bit
offset3_set w = if_bit 22 w 0 (rm_set w)

-- A5.4 and A5.5: the base is written where W = 1
unfoldable pub written_back_set : ℕ → ℕ
unfolding if_bit
written_back_set w = if_bit 21 w (rn_set w) 0

-- A5.2 and A5.3: it is written where W = 1 or P = 0 (post-indexed)
unfoldable pub indexed_set : ℕ → ℕ
unfolding if_bit written_back_set
indexed_set w = if_bit 24 w (written_back_set w) (rn_set w)

-- Rd, which is even, and the odd register after it
abbrev pub pair_set : ℕ → ℕ
pair_set w = bit_or (2 ^ rd_of w) (2 ^ (rd_of w / 2 * 2 + 1))

-- MSR reads Rm unless it has an immediate
unfoldable pub status_source_set : ℕ → ℕ
unfolding if_bit
status_source_set w = if_bit 25 w 0 (rm_set w)

-- MRC to R15 writes the condition flags, and no register
unfoldable pub coprocessor_result_set : ℕ → ℕ
coprocessor_result_set w = elim (eqb (rd_of w) 15) [ true ↦ 0 | false ↦ rd_set w ]

abbrev list : ℕ → ℕ
list w = w % 2 ^ 16

-- Registers read. In a multiply the fields' names differ from page to page: bits 19 to 16 are rn_set here, bits 15 to 12 rd_set.
unfoldable pub uses_of : Form → ℕ → ℕ
uses_of Compute w = bit_or (rn_set w) (shifter_set w)
uses_of Compare w = bit_or (rn_set w) (shifter_set w)
uses_of Move w = shifter_set w
uses_of Multiply w = bit_or (rm_set w) (rs_set w)
uses_of MultiplyAdd w = bit_or (bit_or (rm_set w) (rs_set w)) (rd_set w)
uses_of MultiplyLong w = bit_or (rm_set w) (rs_set w)
uses_of MultiplyAddLong w = bit_or (bit_or (bit_or (rm_set w) (rs_set w)) (rd_set w)) (rn_set w)
uses_of Saturate w = bit_or (rm_set w) (rn_set w)
uses_of CountZeros w = rm_set w
uses_of Branch w = pc
uses_of BranchLink w = pc
uses_of BranchRegister w = rm_set w
uses_of BranchLinkRegister w = rm_set w
uses_of Trap w = 0
uses_of Load w = bit_or (rn_set w) (offset2_set w)
uses_of Store w = bit_or (bit_or (rd_set w) (rn_set w)) (offset2_set w)
uses_of Preload w = bit_or (rn_set w) (offset2_set w)
uses_of LoadExtra w = bit_or (rn_set w) (offset3_set w)
uses_of StoreExtra w = bit_or (bit_or (rd_set w) (rn_set w)) (offset3_set w)
uses_of LoadDouble w = bit_or (rn_set w) (offset3_set w)
uses_of StoreDouble w = bit_or (bit_or (pair_set w) (rn_set w)) (offset3_set w)
uses_of LoadBlock w = rn_set w
uses_of StoreBlock w = bit_or (list w) (rn_set w)
uses_of Swap w = bit_or (rm_set w) (rn_set w)
uses_of StatusRead w = 0
uses_of StatusWrite w = status_source_set w
uses_of CoprocessorTransfer w = rn_set w
uses_of ToCoprocessor w = rd_set w
uses_of FromCoprocessor w = 0
uses_of PairToCoprocessor w = bit_or (rd_set w) (rn_set w)
uses_of PairFromCoprocessor w = 0
uses_of Nothing w = 0

-- Registers written. SWI and BKPT save their return address in a banked register, R14_svc or R14_abt, not in the R14 of the mode
-- that they are met in. LDM (2) and STM (2) name User mode's registers; their numbers count.
unfoldable pub defs_of : Form → ℕ → ℕ
defs_of Compute w = rd_set w
defs_of Compare w = 0
defs_of Move w = rd_set w
defs_of Multiply w = rn_set w
defs_of MultiplyAdd w = rn_set w
defs_of MultiplyLong w = bit_or (rd_set w) (rn_set w)
defs_of MultiplyAddLong w = bit_or (rd_set w) (rn_set w)
defs_of Saturate w = rd_set w
defs_of CountZeros w = rd_set w
defs_of Branch w = pc
defs_of BranchLink w = bit_or lr pc
defs_of BranchRegister w = pc
defs_of BranchLinkRegister w = bit_or lr pc
defs_of Trap w = pc
defs_of Load w = bit_or (rd_set w) (indexed_set w)
defs_of Store w = indexed_set w
defs_of Preload w = 0
defs_of LoadExtra w = bit_or (rd_set w) (indexed_set w)
defs_of StoreExtra w = indexed_set w
defs_of LoadDouble w = bit_or (pair_set w) (indexed_set w)
defs_of StoreDouble w = indexed_set w
defs_of LoadBlock w = bit_or (list w) (written_back_set w)
defs_of StoreBlock w = written_back_set w
defs_of Swap w = rd_set w
defs_of StatusRead w = rd_set w
defs_of StatusWrite w = 0
defs_of CoprocessorTransfer w = written_back_set w
defs_of ToCoprocessor w = 0
defs_of FromCoprocessor w = coprocessor_result_set w
defs_of PairToCoprocessor w = 0
defs_of PairFromCoprocessor w = bit_or (rd_set w) (rn_set w)
defs_of Nothing w = 0

-- LDM with S (bit 22) and PC in its list copies the SPSR to the CPSR
unfoldable pub restores : ℕ → Bool
unfolding if_bit
restores w = if_bit 22 w (eqb (bit 15 w) 1) false

-- MSR to the CPSR (R, bit 22, is 0) whose field mask holds the flag byte (bit 19)
unfoldable pub writes_flags : ℕ → Bool
unfolding if_bit
writes_flags w = if_bit 22 w false (eqb (bit 19 w) 1)

-- Condition flags: by the S bit, which is 0 in the DSP multiplies; a compare always; MRC to R15.
unfoldable pub flags_of : Form → ℕ → Bool
flags_of Compute w = eqb (bit 20 w) 1
flags_of Compare w = true
flags_of Move w = eqb (bit 20 w) 1
flags_of Multiply w = eqb (bit 20 w) 1
flags_of MultiplyAdd w = eqb (bit 20 w) 1
flags_of MultiplyLong w = eqb (bit 20 w) 1
flags_of MultiplyAddLong w = eqb (bit 20 w) 1
flags_of Saturate w = false
flags_of CountZeros w = false
flags_of Branch w = false
flags_of BranchLink w = false
flags_of BranchRegister w = false
flags_of BranchLinkRegister w = false
flags_of Trap w = false
flags_of Load w = false
flags_of Store w = false
flags_of Preload w = false
flags_of LoadExtra w = false
flags_of StoreExtra w = false
flags_of LoadDouble w = false
flags_of StoreDouble w = false
flags_of LoadBlock w = restores w
flags_of StoreBlock w = false
flags_of Swap w = false
flags_of StatusRead w = false
flags_of StatusWrite w = writes_flags w
flags_of CoprocessorTransfer w = false
flags_of ToCoprocessor w = false
flags_of FromCoprocessor w = eqb (rd_of w) 15
flags_of PairToCoprocessor w = false
flags_of PairFromCoprocessor w = false
flags_of Nothing w = false
