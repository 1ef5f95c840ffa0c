-- illegal_code.rs, the ARM arms: `handle`, case by case in the source's order.
-- Assumes nothing.
use Rattle.std.specs.Prelude.{ℕ, ◌/◌, ◌%◌, ◌^◌, Bool, true, false, eqb}
use Rattle.classes.specs.declared.Class.TheVariants.{Illegal as ILLEGAL, Lsl, Lsr, Asr, Ror, Stm, Str, Ldm}
use Rattle.arm.specs.declared.Ins.{Ins}
use Rattle.classes.specs.Class.{is}
use Rattle.analysis.specs.declared.illegal_code.IllegalCodeState.{IllegalCodeState}
use Rattle.analysis.specs.declared.illegal_code.IllegalCodeState.TheVariants.{Start, ShiftedRegisterValue, Illegal}
use Rattle.analysis.specs.Pattern.{by_itself, pc}
use Rattle.base.specs.declared.refusal.Refusal.TheVariants.{IllegalOpcode, ShiftedBase, OffsetByItself, PcIntoPc}
use Rattle.base.specs.Choice.{pick, both}

-- a register gets a shifted value
unfoldable pub is_shift : Ins → Bool
is_shift i = pick (is i.class Lsl) true (pick (is i.class Lsr) true (pick (is i.class Asr) true (is i.class Ror)))

-- the register that was just shifted is the base of a block store
unfoldable pub dereferenced : IllegalCodeState → Ins → Bool
dereferenced Start i = false
dereferenced (ShiftedRegisterValue reg) i = both (is i.class Stm) (eqb reg i.rn)
dereferenced (Illegal reason) i = false

-- a store whose offset register is its base
unfoldable pub offset_by_itself : Ins → Bool
offset_by_itself i = both (is i.class Str) (by_itself i.addr)

abbrev pub pc_in_list : ℕ → Bool
pc_in_list regs = eqb (regs / 2 ^ 15 % 2) 1

-- a block load off PC into PC
unfoldable pub reads_pc_into_pc : Ins → Bool
reads_pc_into_pc i = both (is i.class Ldm) (both (eqb i.rn pc) (pc_in_list i.regs))

unfoldable pub illegal_code : IllegalCodeState → Ins → IllegalCodeState
illegal_code s i =
    pick (is i.class ILLEGAL) (Illegal IllegalOpcode)
    (pick (is_shift i) (ShiftedRegisterValue i.rd)
    (pick (dereferenced s i) (Illegal ShiftedBase)
    (pick (offset_by_itself i) (Illegal OffsetByItself)
    (pick (reads_pc_into_pc i) (Illegal PcIntoPc) Start))))
