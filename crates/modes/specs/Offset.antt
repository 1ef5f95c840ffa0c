-- The signed offsets of branches and loads, and the address that a branch goes to.
-- Assumes nothing.
use Rattle.std.specs.Prelude.{ℕ, ◌+◌, ◌-◌, ◌%◌, true, false, ltb, eqb, ℤ, pos, negsuc, neg_ℤ, ◌+ℤ◌, ◌-ℤ◌, ◌*ℤ◌}
use Rattle.classes.specs.Fields.{bit}

-- x read as two's complement; half is the weight of the sign bit
unfoldable pub signed : ℕ → ℕ → ℤ
signed half x = elim (ltb x half) [ true ↦ pos x | false ↦ pos x -ℤ pos (half + half) ]

-- the remainder from 0 to m - 1, of negative numbers too
unfoldable pub modulo : ℕ → ℤ → ℕ
modulo m (pos n) = n % m
modulo m (negsuc n) = (m - 1) - n % m

-- the offset of a branch word, in words: bits 23 to 0, signed
unfoldable pub branch_offset : ℕ → ℤ
branch_offset w = signed 0x80_0000 (w % 0x100_0000)

-- the offset of a load or store word, in bytes: bits 11 to 0, added where bit 23 (U) is set and else subtracted
unfoldable pub load_offset : ℕ → ℤ
load_offset w = elim (eqb (bit 23 w) 1) [ true ↦ pos (w % 4096) | false ↦ neg_ℤ (pos (w % 4096)) ]

-- where a branch at address a goes: z words past a + 8, the value that r15 reads as, and extra bytes more
unfoldable pub destination : ℕ → ℤ → ℕ → ℕ
destination a z extra = modulo 0x1_0000_0000 (pos (a + 8) +ℤ pos 4 *ℤ z +ℤ pos extra)
