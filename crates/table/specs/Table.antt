-- A module's table: a list of functions, each with its four addresses, how many registers it saves, and its own entries.
-- Assumes nothing.
use Rattle.std.specs.Prelude.{Bool, List, ℕ, map}
use Rattle.std.specs.List.{list_all}
use Rattle.base.specs.Choice.{both}
use Rattle.rows.specs.Map.{key_of}
use Rattle.rows.specs.Order.{ascending}

-- labels: address. pools: address, value, mark (1 call, 0 other). jump and inline tables: address, size. calls: address, word, destination,
-- mode (1 Thumb, 0 ARM)
pub record Function : Type 0 where
  pub start : ℕ
  pub end : ℕ
  pub first_instruction : ℕ
  pub last_instruction_end : ℕ
  pub saved_registers : ℕ
  pub labels : List (List ℕ)
  pub pools : List (List ℕ)
  pub jump_tables : List (List ℕ)
  pub inline_tables : List (List ℕ)
  pub calls : List (List ℕ)

-- entries ascend strictly by address
abbrev pub rises : List (List ℕ) → Bool
rises entries = ascending (map key_of entries)

abbrev pub entries_rise : Function → Bool
entries_rise f = both (rises f.labels) (both (rises f.pools) (both (rises f.jump_tables) (both (rises f.inline_tables) (rises f.calls))))

-- functions ascend strictly by first instruction, and each one's entries by address
unfoldable pub is_ascending : List Function → Bool
is_ascending table = both (ascending (map (λ f. f.first_instruction) table)) (list_all entries_rise table)
