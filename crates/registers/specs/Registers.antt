-- Sets of registers as 16 bits, and the pool words that registers hold: 0 where there is none.
-- Assumes nothing.
use Rattle.std.specs.Prelude.{ℕ, zero, suc, ◌+◌, ◌/◌, ◌%◌, ◌^◌, Bool, not, List, [], ◌∷◌, Option, eqb, ltb, get_or, set}
use Rattle.std.specs.Bool.{then_some}
use Rattle.base.specs.Choice.{pick, both}
use Rattle.registers.specs.declared.Registers.{Registers}

-- register 0 is in a set
abbrev pub is_odd : ℕ → Bool
is_odd set = eqb (set % 2) 1

-- a column of the registers from some register on, without those of a set
unfoldable pub column_forgotten : ℕ → List ℕ → List ℕ
column_forgotten set [] = []
column_forgotten set (x ∷ xs) = pick (is_odd set) 0 x ∷ column_forgotten (set / 2) xs

-- written registers forget their pool words
unfoldable pub forgotten : Registers → ℕ → Registers
forgotten r set = record { values = column_forgotten set r.values; sources = column_forgotten set r.sources }

-- a register now holds a pool word
unfoldable pub holding : Registers → ℕ → ℕ → ℕ → Registers
holding r n value source = record { values = set r.values n value; sources = set r.sources n source }

-- where a register's pool word stands
unfoldable pub source_of : Registers → ℕ → ℕ
source_of r n = get_or r.sources n 0

-- a place, where 0 says that there is none
abbrev pub some_unless_0 : ℕ → Option ℕ
some_unless_0 n = then_some (not (eqb n 0)) n

-- the lowest of n registers, from r on, that is in one set and not in the other; 16 where there is none
unfoldable pub missing_from : ℕ → ℕ → ℕ → ℕ → ℕ
missing_from zero r uses defined = 16
missing_from (suc n) r uses defined = pick (both (is_odd uses) (not (is_odd defined))) r (missing_from n (r + 1) (uses / 2) (defined / 2))

abbrev pub lowest_missing : ℕ → ℕ → ℕ
lowest_missing uses defined = missing_from 16 0 uses defined

-- a register, where 16 says that there is none
abbrev pub register_of : ℕ → Option ℕ
register_of n = then_some (ltb n 16) n

-- a register alone, of sixteen
abbrev pub only : ℕ → ℕ
only r = 2 ^ (r % 16)
