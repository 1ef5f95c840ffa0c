-- check_defs_uses: registers that an instruction reads must have been defined.
-- Assumes nothing.
use Rattle.std.specs.Prelude.{ℕ, Bool, not}
use Rattle.std.specs.Int.Bits.{bit_or}
use Rattle.arm.specs.declared.Ins.{Ins}
use Rattle.base.specs.Choice.{pick, both}
use Rattle.predicates.specs.Predicates.{is_nop, is_push, is_stack_store}
use Rattle.registers.specs.Registers.{lowest_missing, only}

unfoldable pub is_checked : Bool → Ins → Bool
is_checked check i = both check (not (is_nop i))

-- a push first defines its list
unfoldable pub defined_before : ℕ → Ins → ℕ
defined_before defined i = pick (is_push i) (bit_or defined i.regs) defined

-- the lowest register that is read and not defined, or 16; a store on the stack is not looked at
unfoldable pub undefined_register : Bool → ℕ → Ins → ℕ
undefined_register check defined i =
    pick (is_checked check i) (pick (is_stack_store i) 16 (lowest_missing i.uses (defined_before defined i))) 16

-- a store on the stack defines the register that it stores
unfoldable pub defined_by : ℕ → Ins → ℕ
defined_by defined i = pick (is_stack_store i) (bit_or defined (only i.rd)) defined

-- what is no return defines what it writes
unfoldable pub defined_after : Bool → ℕ → Ins → Bool → ℕ
defined_after check defined i is_return =
    pick (is_checked check i)
    (pick is_return (defined_by (defined_before defined i) i) (bit_or (defined_by (defined_before defined i) i) i.defs))
    defined
