-- Operands by the manual's addressing modes (chapter A5).
-- Assumes nothing.
use Rattle.std.specs.Prelude.{ℕ, ◌*◌, ◌/◌, ◌%◌, ◌^◌, true, false, [], ◌∷◌, eqb, get_or}
use Rattle.classes.specs.declared.ShiftOp.{ShiftOp}
use Rattle.classes.specs.declared.ShiftOp.TheVariants.{Lsl, Lsr, Asr, Ror, Rrx}
use Rattle.classes.specs.declared.Op2.{Op2}
use Rattle.classes.specs.declared.Op2.TheVariants.{Imm, ShiftImm, ShiftReg}
use Rattle.classes.specs.declared.LdrStrOffset.{LdrStrOffset}
use Rattle.classes.specs.declared.LdrStrOffset.TheVariants.{Imm as Offset-Imm, Reg}
use Rattle.classes.specs.declared.AddrLdrStr.{AddrLdrStr}
use Rattle.classes.specs.declared.AddrLdrStr.TheVariants.{Pre, Post}
use Rattle.classes.specs.declared.LdmStmMode.{LdmStmMode}
use Rattle.classes.specs.declared.LdmStmMode.TheVariants.{Da, Ia, Db, Ib}
use Rattle.modes.specs.Immediate.{immediate}
use Rattle.modes.specs.Offset.{load_offset, branch_offset, destination}
use Rattle.classes.specs.Fields.{bit, rn_of, rm_of, rs_of}

-- the kind of a shift, bits 6 and 5
abbrev pub kind_of : ℕ → ℕ
kind_of w = w / 2 ^ 5 % 4

-- the amount field of a shift by an immediate, bits 11 to 7
abbrev pub amount_of : ℕ → ℕ
amount_of w = w / 2 ^ 7 % 32

-- A5.1: by kind, where the amount field is not 0 or the amount is a register's
unfoldable pub shift_of : ℕ → ShiftOp
shift_of k = get_or (Lsl ∷ Lsr ∷ Asr ∷ Ror ∷ []) k Lsl

-- where the amount field is 0: LSL #0, LSR #32, ASR #32, RRX (by one)
unfoldable pub zero_shift_of : ℕ → ShiftOp
zero_shift_of k = get_or (Lsl ∷ Lsr ∷ Asr ∷ Rrx ∷ []) k Lsl

unfoldable pub zero_amount_of : ℕ → ℕ
zero_amount_of k = get_or (0 ∷ 32 ∷ 32 ∷ 1 ∷ []) k 0

-- a shift by an immediate
unfoldable pub shift_imm_of : ℕ → ShiftOp
unfolding shift_of zero_shift_of
shift_imm_of w = elim (eqb (amount_of w) 0) [ true ↦ zero_shift_of (kind_of w) | false ↦ shift_of (kind_of w) ]

unfoldable pub shift_amount_of : ℕ → ℕ
unfolding zero_amount_of
shift_amount_of w = elim (eqb (amount_of w) 0) [ true ↦ zero_amount_of (kind_of w) | false ↦ amount_of w ]

-- A5.1, the second operand: an immediate (bit 25), or Rm shifted by a register (bit 4) or by an amount
unfoldable pub op2_of : ℕ → Op2
op2_of w =
    elim (eqb (bit 25 w) 1) [
      | true ↦ Imm (immediate w)
      | false ↦ elim (eqb (bit 4 w) 1) [
        | true ↦ ShiftReg (rm_of w) (shift_of (kind_of w)) (rs_of w)
        | false ↦ ShiftImm (rm_of w) (shift_imm_of w) (shift_amount_of w)
      ]
    ]

-- A5.2: a shifted register (bit 25), subtracted where U (bit 23) is 0; or an immediate
unfoldable pub offset_of : ℕ → LdrStrOffset
offset_of w =
    elim (eqb (bit 25 w) 1) [
      | true ↦ Reg (rm_of w) (shift_imm_of w) (shift_amount_of w) (eqb (bit 23 w) 0)
      | false ↦ Offset-Imm (load_offset w)
    ]

-- A5.2: P (bit 24) tells a pre-indexed address, W (bit 21) its write-back
unfoldable pub addr_of : ℕ → AddrLdrStr
addr_of w =
    elim (eqb (bit 24 w) 1) [ true ↦ Pre (rn_of w) (offset_of w) (eqb (bit 21 w) 1) | false ↦ Post (rn_of w) (offset_of w) ]

-- A5.4: P and U, bits 24 and 23
unfoldable pub mode_of : ℕ → LdmStmMode
mode_of w = get_or (Da ∷ Ia ∷ Db ∷ Ib ∷ []) (w / 2 ^ 23 % 4) Da

-- Where a branch goes. BLX (1), at condition 1111, adds H (bit 24) times 2.
unfoldable pub extra_of : ℕ → ℕ
extra_of w = elim (eqb (w / 2 ^ 28) 15) [ true ↦ 2 * bit 24 w | false ↦ 0 ]

unfoldable pub target_of : ℕ → ℕ → ℕ
target_of w address = destination address (branch_offset w) (extra_of w)
