-- The five lists that a host lends.
-- Assumes nothing.
use Rattle.std.specs.Prelude.{◌≡◌, Bool, List, ℕ}
use Rattle.base.specs.Choice.{both}
use Rattle.context.specs.Context.{label_row, pool_row, table_row, call_row}
use Rattle.context.specs.Lists.{lists}
use Rattle.rows.specs.Map.{in_order}
use Rattle.walk.specs.declared.Counts.{Counts}
use Rattle.lists.specs.declared.Lists.{Lists}
use Rattle.lists.specs.declared.shared.SharedLists.{SharedLists}

-- their numbers, where these are the calls'
abbrev pub lists_of : {C : Type 0} → (C → List ℕ) → Lists C → Rattle.context.specs.Lists.Lists
lists_of numbers l = lists l.labels.now l.pools.now l.jump_tables.now l.inline_tables.now (numbers l.calls)

-- what lists of numbers hold that are lent to be read
abbrev pub rows_of : SharedLists → Rattle.context.specs.Lists.Lists
rows_of s = lists s.labels.now s.pools.now s.jump_tables.now s.inline_tables.now s.calls.now

-- each list holds a map of its count, and zeros after it
unfoldable pub are_in_order : Counts → Rattle.context.specs.Lists.Lists → Bool
are_in_order n l =
    both (in_order label_row n.labels l.labels)
    (both (in_order pool_row n.pools l.pools)
    (both (in_order table_row n.jump_tables l.jump_tables)
    (both (in_order table_row n.inline_tables l.inline_tables) (in_order call_row n.calls l.calls))))

-- they are the same places as before
pub record IsSame {C : Type 0} (same : C → C → Type 0) (a b : Lists C) : Type 0 where
  pub labels : b.labels.ghost_name ≡ a.labels.ghost_name
  pub pools : b.pools.ghost_name ≡ a.pools.ghost_name
  pub jump_tables : b.jump_tables.ghost_name ≡ a.jump_tables.ghost_name
  pub inline_tables : b.inline_tables.ghost_name ≡ a.inline_tables.ghost_name
  pub calls : same a.calls b.calls
