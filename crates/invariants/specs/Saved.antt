-- What a record tells of its first instruction.
-- Assumes nothing.
use Rattle.std.specs.Prelude.{◌≡◌, ℕ}
use Rattle.walk.specs.declared.Record.{Record}

-- it stands at the requested start, and its word saves so many registers
pub record Tells (start saved : ℕ) (r : Record) : Type 0 where
  pub first : r.first_instruction ≡ start
  pub saves : r.saved_registers ≡ saved
