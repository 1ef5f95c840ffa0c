-- inline_table.rs: `handle` and `get_table`, case by case in the source's order. A sum that leaves 32 bits is refused: below 0 or above
-- at the SUB, a table's end where the table would be made.
-- Assumes nothing.
use Rattle.std.specs.Prelude.{ℕ, ◌+◌, ◌-◌, Bool, true, false, eqb, ltb, Option, Some, None, Result, Ok, Err}
use Rattle.classes.specs.declared.Class.TheVariants.{Sub, Ldrb}
use Rattle.classes.specs.declared.Cond.TheVariants.{Al}
use Rattle.arm.specs.declared.Ins.{Ins}
use Rattle.classes.specs.declared.Op2.{Op2}
use Rattle.classes.specs.declared.Op2.TheVariants.{Imm, ShiftImm, ShiftReg}
use Rattle.analysis.specs.declared.inline_table.InlineTableState.{InlineTableState}
use Rattle.analysis.specs.declared.inline_table.InlineTableState.TheVariants.{Start, SubPc, ValidTable}
use Rattle.analysis.specs.declared.inline_table.InlineTable.{InlineTable}
use Rattle.base.specs.declared.refusal.Refusal.{Refusal}
use Rattle.base.specs.declared.refusal.Refusal.TheVariants.{Beyond32Bits}
use Rattle.analysis.specs.Pattern.{is_when, is_data, is_pre, by_lsr, pc}
use Rattle.base.specs.Choice.{pick, both}

-- 0x100, and how far ahead of the instruction PC reads: 4 bytes in Thumb, 8 in ARM
abbrev pub ahead_of : Bool → ℕ
ahead_of true = 0x104
ahead_of false = 0x108

-- 0x100 + address - offset + 8 (4 in Thumb), size 0x100
unfoldable pub table_address : Bool → ℕ → ℕ → ℕ → Result InlineTableState Refusal
table_address thumb address rd offset =
    pick (ltb (address + ahead_of thumb) offset) (Err Beyond32Bits)
    (pick (ltb (address + ahead_of thumb - offset) 0x1_0000_0000) (Ok (SubPc rd (address + ahead_of thumb - offset) 0x100)) (Err Beyond32Bits))

unfoldable pub sub_from : Bool → ℕ → ℕ → Op2 → Result InlineTableState Refusal
sub_from thumb address rd (Imm offset) = table_address thumb address rd offset
sub_from thumb address rd (ShiftImm rm op n) = Ok Start
sub_from thumb address rd (ShiftReg rm op rs) = Ok Start

-- sub table_base, pc, #offset
unfoldable pub sub_pc_of : Bool → ℕ → Ins → Result InlineTableState Refusal
sub_pc_of thumb address i = pick (both (is_data i Sub Al false) (eqb i.rn pc)) (sub_from thumb address i.rd i.op2) (Ok Start)

-- ldrb *, [table_base, r* lsr #*]
unfoldable pub is_table_load : Ins → ℕ → Bool
is_table_load i base = both (is_when i Ldrb Al) (both (is_pre i.addr base) (by_lsr i.addr))

unfoldable pub table_made : ℕ → ℕ → Result InlineTableState Refusal
table_made address size = pick (ltb (address + size) 0x1_0000_0000) (Ok (ValidTable (record { address = address; size = size }))) (Err Beyond32Bits)

abbrev pub inline_table : InlineTableState → Bool → ℕ → Ins → Result InlineTableState Refusal
inline_table Start thumb address i = sub_pc_of thumb address i
inline_table (SubPc base table size) thumb address i = pick (is_table_load i base) (table_made table size) (Ok Start)
inline_table (ValidTable table) thumb address i = Ok Start

abbrev pub table_of : InlineTableState → Option InlineTable
table_of Start = None
table_of (SubPc base table size) = None
table_of (ValidTable table) = Some table
