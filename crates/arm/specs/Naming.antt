-- The naming rules of document 01, and of document 02 for pushes and pops of one register; and a word's class.
-- Assumes nothing.
use Rattle.std.specs.Prelude.{ℕ, ◌/◌, ◌%◌, ◌^◌, Bool, true, false, eqb}
use Rattle.classes.specs.declared.Class.{Class}
use Rattle.classes.specs.declared.Class.TheVariants.{Mov, Stm, Ldm, Str, Ldr, Push, Pop, Lsl, Lsr, Asr, Ror}
use Rattle.classes.specs.declared.ShiftOp.{ShiftOp}
use Rattle.classes.specs.declared.ShiftOp.TheVariants.{Lsl as shift-Lsl, Lsr as shift-Lsr, Asr as shift-Asr, Ror as shift-Ror, Rrx}
use Rattle.classes.specs.declared.Op2.{Op2}
use Rattle.classes.specs.declared.Op2.TheVariants.{Imm, ShiftImm, ShiftReg}
use Rattle.classes.specs.Class.{is}
use Rattle.encodings.specs.Encodings.{encoding_of}
use Rattle.modes.specs.Operands.{op2_of}
use Rattle.regsets.specs.Sets.{rd_set}

-- a shift's own name; RRX has none
unfoldable pub shift_name : ShiftOp → Class
shift_name shift-Lsl = Lsl
shift_name shift-Lsr = Lsr
shift_name shift-Asr = Asr
shift_name shift-Ror = Ror
shift_name Rrx = Mov

-- MOV with a shift is that shift; a shift by 0 is LSL #0, and stays MOV
unfoldable pub mov_name : Op2 → Class
mov_name (Imm v) = Mov
mov_name (ShiftImm rm op n) = elim (eqb n 0) [ true ↦ Mov | false ↦ shift_name op ]
mov_name (ShiftReg rm op rs) = shift_name op

-- bits 24 to 16: P = 1, U = 0, S = 0, W = 1, L = 0, Rn = SP (STMDB); P = 0, U = 1, S = 0, W = 1, L = 1, Rn = SP (LDMIA)
unfoldable pub stm_name : ℕ → Class
stm_name w = elim (eqb (w / 2 ^ 16 % 2 ^ 9) 0b1_0010_1101) [ true ↦ Push | false ↦ Stm ]

unfoldable pub ldm_name : ℕ → Class
ldm_name w = elim (eqb (w / 2 ^ 16 % 2 ^ 9) 0b0_1011_1101) [ true ↦ Pop | false ↦ Ldm ]

-- a push or a pop of one register. Bits 27 to 16: an immediate offset, P = 1, U = 0, W = 1, Rn = SP (STR Rd, [SP, #-4]!); P = 0, U = 1,
-- W = 0, Rn = SP (LDR Rd, [SP], #4); and bits 11 to 0: the offset
unfoldable pub str_name : ℕ → Class
str_name w =
    elim (eqb (w / 2 ^ 16 % 2 ^ 12) 0b0101_0010_1101) [
      | true ↦ elim (eqb (w % 2 ^ 12) 4) [ true ↦ Push | false ↦ Str ]
      | false ↦ Str
    ]

unfoldable pub ldr_name : ℕ → Class
ldr_name w =
    elim (eqb (w / 2 ^ 16 % 2 ^ 12) 0b0100_1001_1101) [
      | true ↦ elim (eqb (w % 2 ^ 12) 4) [ true ↦ Pop | false ↦ Ldr ]
      | false ↦ Ldr
    ]

-- the name of a word whose encoding has class k
unfoldable pub name_of : Class → ℕ → Class
name_of k w =
    elim (is k Mov) [
      | true ↦ mov_name (op2_of w)
      | false ↦ elim (is k Stm) [
        | true ↦ stm_name w
        | false ↦ elim (is k Ldm) [
          | true ↦ ldm_name w
          | false ↦ elim (is k Str) [
            | true ↦ str_name w
            | false ↦ elim (is k Ldr) [ true ↦ ldr_name w | false ↦ k ]
          ]
        ]
      ]
    ]

-- the class of a word
unfoldable pub class_of : ℕ → Class
class_of w = name_of (encoding_of w) w

-- a push or a pop of one register: bits 27 to 25 are 010, a single transfer's; a block transfer's are 100
unfoldable pub is_of_one : Class → ℕ → Bool
is_of_one k w = elim (eqb (w / 2 ^ 25 % 2 ^ 3) 0b010) [ true ↦ elim (is k Push) [ true ↦ true | false ↦ is k Pop ] | false ↦ false ]

-- the register list of a word with the name k: bits 15 to 0, or that one register
unfoldable pub regs_of : Class → ℕ → ℕ
regs_of k w = elim (is_of_one k w) [ true ↦ rd_set w | false ↦ w % 2 ^ 16 ]
