-- The fields of an instruction word, at the places that the manual's diagrams give them.
-- Assumes nothing.
use Rattle.std.specs.Prelude.{ℕ, ◌/◌, ◌%◌, ◌^◌, get_or}
use Rattle.classes.specs.declared.Cond.{Cond}
use Rattle.classes.specs.declared.Cond.TheVariants.{Nv}
use Rattle.classes.specs.Cond.{conds}

-- bit i
abbrev pub bit : ℕ → ℕ → ℕ
bit i w = w / 2 ^ i % 2

-- the condition: bits 31 to 28
abbrev pub cond_of : ℕ → Cond
cond_of w = get_or conds (w / 2 ^ 28) Nv

-- the registers that four-bit fields name
abbrev pub rn_of : ℕ → ℕ
rn_of w = w / 2 ^ 16 % 16

abbrev pub rd_of : ℕ → ℕ
rd_of w = w / 2 ^ 12 % 16

abbrev pub rs_of : ℕ → ℕ
rs_of w = w / 2 ^ 8 % 16

abbrev pub rm_of : ℕ → ℕ
rm_of w = w % 16
