-- What inner functions of the writer promise: lists that hold one function's entries and no more, and how many bytes functions have.
-- Assumes nothing.
use Rattle.std.specs.Prelude.{◌≡◌, List, ◌++◌, ℕ, ◌+◌, ◌*◌, ◌^◌, length, get_or, take, drop, map, ltb, leb, Option, Some, None}
use Rattle.std.specs.List.{sum_by, flat_map}
use Rattle.base.specs.Choice.{pick, both}
use Rattle.table.specs.Table.{Function}
use Rattle.table.specs.Held.{label_row, pool_row, jump_table_row, inline_table_row, call_row, saved_registers_at, labels_at, pools_at, jump_tables_at, inline_tables_at, calls_at, Lists, flag, flagged}
use Rattle.table.specs.File.{entries, function}
use Rattle.table.specs.Split.{rows_in}

pub record Own (row : List ℕ) (l : Lists) : Type 0 where
  pub labels : length l.labels ≡ get_or row labels_at 0 * label_row
  pub pools : length l.pools ≡ get_or row pools_at 0 * pool_row
  pub jump_tables : length l.jump_tables ≡ get_or row jump_tables_at 0 * jump_table_row
  pub inline_tables : length l.inline_tables ≡ get_or row inline_tables_at 0 * inline_table_row
  pub calls : length l.calls ≡ get_or row calls_at 0 * call_row

-- a row without its saved registers
abbrev pub heading_in : List ℕ → List ℕ
heading_in row = take saved_registers_at row ++ drop labels_at row

-- a byte for each flag
abbrev pub flags : List ℕ → List ℕ
flags ns = map flag ns

-- all entries of a list, by their stride, with n numbers each and flags behind them
abbrev pub entries_in : ℕ → ℕ → List ℕ → List ℕ
entries_in stride n list = entries n (map (flagged n) (rows_in stride list))

unfoldable pub functions : List Function → List ℕ
functions fs = flat_map function fs

-- its nine numbers; then 4 bytes a label, 9 a pool, 8 a table, 13 a call
abbrev pub row_len : List ℕ → ℕ
row_len row =
    36 + 4 * get_or row labels_at 0 + 9 * get_or row pools_at 0 + 8 * get_or row jump_tables_at 0 + 8 * get_or row inline_tables_at 0
    + 13 * get_or row calls_at 0

-- what follows the length
unfoldable pub rows_len : List (List ℕ) → ℕ
rows_len rows = 5 + sum_by row_len rows

-- a length that fits four bytes, and with its own four bytes the output
unfoldable pub body_within : ℕ → ℕ → Option ℕ
body_within len places = pick (both (ltb len (2 ^ 32)) (leb (4 + len) places)) (Some len) None
