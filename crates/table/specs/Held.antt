-- How lent lists hold a table: a row for each function, and five lists of rows in which one function's entries stand after those of the one
-- before it. What stands behind them is no part of the table.
-- Assumes nothing.
use Rattle.std.specs.Prelude.{◌≡◌, Bool, List, [], ◌∷◌, ◌++◌, ℕ, ◌*◌, ◌≤◌, map, eqb, leb, length, get_or, take, drop}
use Rattle.std.specs.List.{sum_by}
use Rattle.base.specs.Choice.{pick, both}
use Rattle.rows.specs.Map.{map_in}
use Rattle.table.specs.Table.{Function, is_ascending}
use Rattle.table.specs.declared.Entries.{Entries}
use Rattle.table.specs.declared.Table.{Table}

-- the numbers in a row. functions: start, end, first instruction, last instruction end; saved registers; counts of labels, pools, jump
-- tables, inline tables and calls
abbrev pub function_row : ℕ
function_row = 10

abbrev pub label_row : ℕ
label_row = 1

abbrev pub pool_row : ℕ
pool_row = 3

abbrev pub jump_table_row : ℕ
jump_table_row = 2

abbrev pub inline_table_row : ℕ
inline_table_row = 2

abbrev pub call_row : ℕ
call_row = 4

-- the places of a function's first instruction, its saved registers and its counts in its row
abbrev pub first_instruction_at : ℕ
first_instruction_at = 2

abbrev pub saved_registers_at : ℕ
saved_registers_at = 4

abbrev pub labels_at : ℕ
labels_at = 5

abbrev pub pools_at : ℕ
pools_at = 6

abbrev pub jump_tables_at : ℕ
jump_tables_at = 7

abbrev pub inline_tables_at : ℕ
inline_tables_at = 8

abbrev pub calls_at : ℕ
calls_at = 9

-- the entries of functions, one after another
pub record Lists : Type 0 where
  pub labels : List ℕ
  pub pools : List ℕ
  pub jump_tables : List ℕ
  pub inline_tables : List ℕ
  pub calls : List ℕ

abbrev pub lists_of : Entries → Lists
lists_of e = record { labels = e.labels.now; pools = e.pools.now; jump_tables = e.jump_tables.now; inline_tables = e.inline_tables.now; calls = e.calls.now }

-- a mark or a mode is 1, or anything else, which is 0
unfoldable pub flag : ℕ → ℕ
flag n = pick (eqb n 1) 1 0

-- a row whose numbers from place n on are flags
unfoldable pub flagged : ℕ → List ℕ → List ℕ
flagged n row = take n row ++ map flag (drop n row)

-- the function of a row, with the first entries of the lists
unfoldable pub function_in : List ℕ → Lists → Function
function_in row l = record {
  start = get_or row 0 0;
  end = get_or row 1 0;
  first_instruction = get_or row first_instruction_at 0;
  last_instruction_end = get_or row 3 0;
  saved_registers = get_or row saved_registers_at 0;
  labels = map_in label_row (get_or row labels_at 0) l.labels;
  pools = map (flagged 2) (map_in pool_row (get_or row pools_at 0) l.pools);
  jump_tables = map_in jump_table_row (get_or row jump_tables_at 0) l.jump_tables;
  inline_tables = map_in inline_table_row (get_or row inline_tables_at 0) l.inline_tables;
  calls = map (flagged 3) (map_in call_row (get_or row calls_at 0) l.calls);
}

-- the lists without them
unfoldable pub past : List ℕ → Lists → Lists
past row l = record {
  labels = drop (get_or row labels_at 0 * label_row) l.labels;
  pools = drop (get_or row pools_at 0 * pool_row) l.pools;
  jump_tables = drop (get_or row jump_tables_at 0 * jump_table_row) l.jump_tables;
  inline_tables = drop (get_or row inline_tables_at 0 * inline_table_row) l.inline_tables;
  calls = drop (get_or row calls_at 0 * call_row) l.calls;
}

unfoldable pub functions_in : List (List ℕ) → Lists → List Function
functions_in [] l = []
functions_in (row ∷ rows) l = function_in row l ∷ functions_in rows (past row l)

-- the table that lent lists hold, of so many functions
abbrev pub table_in : ℕ → List ℕ → Lists → List Function
table_in count functions l = functions_in (map_in function_row count functions) l

-- ---- number 4

-- the entries of all functions together, by their count's place, have their places in a list
abbrev pub has : List (List ℕ) → ℕ → ℕ → List ℕ → Bool
has rows at stride list = leb (sum_by (λ row. get_or row at 0) rows * stride) (length list)

unfoldable pub fits_lists : List (List ℕ) → Lists → Bool
fits_lists rows l =
    both (has rows labels_at label_row l.labels)
    (both (has rows pools_at pool_row l.pools)
    (both (has rows jump_tables_at jump_table_row l.jump_tables)
    (both (has rows inline_tables_at inline_table_row l.inline_tables)
    (has rows calls_at call_row l.calls))))

-- no count is above its list, and the table ascends
unfoldable pub is_sound : ℕ → List ℕ → Lists → Bool
is_sound count functions l =
    both (leb (count * function_row) (length functions))
    (both (fits_lists (map_in function_row count functions) l) (is_ascending (table_in count functions l)))

-- ---- a table that is lent

abbrev pub held_by : Table → List Function
held_by t = table_in t.count t.functions.now (lists_of t.entries)

-- its functions' rows, where the list has so many
abbrev pub has_rows : Table → Bool
has_rows t = leb (t.count * function_row) (length t.functions.now)

pub record Rows (t : Table) (rows : List (List ℕ)) : Type 0 where
  pub fits : t.count * function_row ≤ length t.functions.now
  pub are : rows ≡ map_in function_row t.count t.functions.now

abbrev pub sound : Table → Bool
sound t = is_sound t.count t.functions.now (lists_of t.entries)
