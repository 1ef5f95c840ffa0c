-- What the machines' patterns ask of an instruction.
-- Assumes nothing.
use Rattle.std.specs.Prelude.{ℕ, Bool, true, false, eqb}
use Rattle.std.specs.Bool.{beq}
use Rattle.base.specs.Choice.{both}
use Rattle.classes.specs.declared.Class.{Class}
use Rattle.classes.specs.declared.Cond.{Cond}
use Rattle.arm.specs.declared.Ins.{Ins}
use Rattle.classes.specs.declared.ShiftOp.{ShiftOp}
use Rattle.classes.specs.declared.ShiftOp.TheVariants.{Lsl, Lsr, Asr, Ror, Rrx}
use Rattle.classes.specs.declared.Op2.{Op2}
use Rattle.classes.specs.declared.Op2.TheVariants.{Imm, ShiftImm, ShiftReg}
use Rattle.classes.specs.declared.LdrStrOffset.{LdrStrOffset}
use Rattle.classes.specs.declared.LdrStrOffset.TheVariants.{Imm as Offset-Imm, Reg}
use Rattle.classes.specs.declared.AddrLdrStr.{AddrLdrStr}
use Rattle.classes.specs.declared.AddrLdrStr.TheVariants.{Pre, Post}
use Rattle.classes.specs.Class.{is}
use Rattle.classes.specs.Cond.{is_cond}

-- registers, by number
abbrev pub ip : ℕ
ip = 12

abbrev pub sp : ℕ
sp = 13

abbrev pub lr : ℕ
lr = 14

abbrev pub pc : ℕ
pc = 15

-- an instruction of a class, under a condition; and one with its S bit as given
abbrev pub is_when : Ins → Class → Cond → Bool
is_when i k c = both (is i.class k) (is_cond i.cond c)

abbrev pub is_data : Ins → Class → Cond → Bool → Bool
is_data i k c s = both (is_when i k c) (beq i.s s)

-- a second operand that is a register shifted by 0
abbrev pub is_register : Op2 → ℕ → Bool
is_register (Imm v) r = false
is_register (ShiftImm rm op n) r = both (eqb n 0) (eqb rm r)
is_register (ShiftReg rm op rs) r = false

abbrev pub is_lsl : ShiftOp → Bool
is_lsl Lsl = true
is_lsl Lsr = false
is_lsl Asr = false
is_lsl Ror = false
is_lsl Rrx = false

abbrev pub is_lsr : ShiftOp → Bool
is_lsr Lsl = false
is_lsr Lsr = true
is_lsr Asr = false
is_lsr Ror = false
is_lsr Rrx = false

-- one that is a register times 4
abbrev pub is_scaled : Op2 → ℕ → Bool
is_scaled (Imm v) r = false
is_scaled (ShiftImm rm op n) r = both (eqb n 2) (both (eqb rm r) (is_lsl op))
is_scaled (ShiftReg rm op rs) r = false

-- a pre-indexed address off a register
abbrev pub is_pre : AddrLdrStr → ℕ → Bool
is_pre (Pre rn offset w) r = eqb rn r
is_pre (Post rn offset) r = false

-- an offset that is a given register, and an address whose offset register is its base
abbrev pub offset_by : LdrStrOffset → ℕ → Bool
offset_by (Offset-Imm z) r = false
offset_by (Reg rm op n sub) r = eqb rm r

abbrev pub by_itself : AddrLdrStr → Bool
by_itself (Pre rn offset w) = offset_by offset rn
by_itself (Post rn offset) = offset_by offset rn

-- an offset that is a register shifted by LSR
abbrev pub offset_by_lsr : LdrStrOffset → Bool
offset_by_lsr (Offset-Imm z) = false
offset_by_lsr (Reg rm op n sub) = is_lsr op

abbrev pub by_lsr : AddrLdrStr → Bool
by_lsr (Pre rn offset w) = offset_by_lsr offset
by_lsr (Post rn offset) = offset_by_lsr offset
