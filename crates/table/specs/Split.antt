-- What inner functions promise: a list cut in two, a function's own entries and those behind them, and what makes a table sound.
-- Assumes nothing.
use Rattle.std.specs.Prelude.{◌≡◌, Bool, true, List, ℕ, ◌*◌, ◌/◌, ◌≤◌, leb, length, get_or, take, drop}
use Rattle.std.specs.List.{list_all}
use Rattle.base.specs.Choice.{both}
use Rattle.rows.specs.Map.{map_in}
use Rattle.table.specs.Table.{rises, entries_rise}
use Rattle.table.specs.Held.{function_row, first_instruction_at, sound, label_row, pool_row, jump_table_row, inline_table_row, call_row, labels_at, pools_at, jump_tables_at, inline_tables_at, calls_at, Lists, functions_in, fits_lists}
use Rattle.table.specs.declared.Table.{Table}

-- n numbers off the front of a list
pub record Cut (n : ℕ) (list front back : List ℕ) : Type 0 where
  pub fits : n ≤ length list
  pub first : front ≡ take n list
  pub rest : back ≡ drop n list

pub record Split (row : List ℕ) (l own others : Lists) : Type 0 where
  pub labels : Cut (get_or row labels_at 0 * label_row) l.labels own.labels others.labels
  pub pools : Cut (get_or row pools_at 0 * pool_row) l.pools own.pools others.pools
  pub jump_tables : Cut (get_or row jump_tables_at 0 * jump_table_row) l.jump_tables own.jump_tables others.jump_tables
  pub inline_tables : Cut (get_or row inline_tables_at 0 * inline_table_row) l.inline_tables own.inline_tables others.inline_tables
  pub calls : Cut (get_or row calls_at 0 * call_row) l.calls own.calls others.calls

-- each list has a function's entries
unfoldable pub fits_row : List ℕ → Lists → Bool
fits_row row l =
    both (leb (get_or row labels_at 0 * label_row) (length l.labels))
    (both (leb (get_or row pools_at 0 * pool_row) (length l.pools))
    (both (leb (get_or row jump_tables_at 0 * jump_table_row) (length l.jump_tables))
    (both (leb (get_or row inline_tables_at 0 * inline_table_row) (length l.inline_tables))
    (leb (get_or row calls_at 0 * call_row) (length l.calls)))))

-- all rows of a list
abbrev pub rows_in : ℕ → List ℕ → List (List ℕ)
rows_in stride list = map_in stride (length list / stride) list

unfoldable pub lists_rise : Lists → Bool
lists_rise l =
    both (rises (rows_in label_row l.labels))
    (both (rises (rows_in pool_row l.pools))
    (both (rises (rows_in jump_table_row l.jump_tables)) (both (rises (rows_in inline_table_row l.inline_tables)) (rises (rows_in call_row l.calls)))))

abbrev pub first_of : List ℕ → ℕ
first_of row = get_or row first_instruction_at 0

-- the lists have the entries of all functions, which ascend in each
unfoldable pub entries_sound : List (List ℕ) → Lists → Bool
entries_sound rows l = both (fits_lists rows l) (list_all entries_rise (functions_in rows l))

-- the rows of a table that is not refused by number 4
pub record SoundRows (t : Table) (rows : List (List ℕ)) : Type 0 where
  pub sound : sound t ≡ true
  pub are : rows ≡ map_in function_row t.count t.functions.now
