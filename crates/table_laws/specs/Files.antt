-- What a file tells of its table: files are equal exactly where tables are, but for how many registers a function saves; a file has the
-- length that it says; and what stands behind a table is no part of it.
-- Assumes nothing.
use Rattle.std.specs.Prelude.{◌≡◌, ◌↔◌, List, [], ◌∷◌, ℕ, ◌+◌, ◌*◌, ◌<◌, ◌^◌, length, get_or, take, map, Ok}
use Rattle.std.specs.Int.{w32, from_be_bytes}
use Rattle.std.specs.List.{sum_by}
use Rattle.rows.specs.Map.{map_in}
use Rattle.table.specs.declared.Table.{Table}
use Rattle.table.specs.Table.{Function}
use Rattle.table.specs.File.{file_of, answer}
use Rattle.table.specs.Held.{function_row, label_row, pool_row, jump_table_row, inline_table_row, call_row, labels_at, pools_at, jump_tables_at, inline_tables_at, calls_at, held_by, sound}

-- each number fits 32 bits, as those of a lent list do
abbrev pub Words : List ℕ → Type 0
Words [] = Unit {0}
Words (n ∷ ns) = (n < 2 ^ 32) × Words ns

pub record TableWords (t : Table) : Type 0 where
  pub functions : Words t.functions.now
  pub labels : Words t.entries.labels.now
  pub pools : Words t.entries.pools.now
  pub jump_tables : Words t.entries.jump_tables.now
  pub inline_tables : Words t.entries.inline_tables.now
  pub calls : Words t.entries.calls.now

-- a lent table that the writer does not refuse, where it has so many places
pub record Accepted (t : Table) (places : ℕ) : Type 0 where
  pub words : TableWords t
  pub bytes : ℕ
  pub written : answer t places ≡ Ok bytes

-- a function but for how many registers it saves
abbrev pub unsaved : Function → Function
unsaved f = record f { saved_registers = 0 }

-- files are equal exactly where tables are but for that
abbrev pub SameFiles : Type 0
SameFiles =
    (t u : Table) (m n : ℕ) → Accepted t m → Accepted u n
    → (file_of (held_by t) ≡ file_of (held_by u)) ↔ (map unsaved (held_by t) ≡ map unsaved (held_by u))

-- a file's first four bytes say how many follow
abbrev pub SaysLength : Type 0
SaysLength = (t : Table) (n : ℕ) → Accepted t n → length (file_of (held_by t)) ≡ from_be_bytes w32 (take 4 (file_of (held_by t))) + 4

-- ---- what stands behind the counts

-- the entries of all functions, by their count's place
abbrev pub total : ℕ → Table → ℕ
total at t = sum_by (λ row. get_or row at 0) (map_in function_row t.count t.functions.now)

-- two lent tables that agree as far as the first one's counts reach
pub record Alike (t u : Table) : Type 0 where
  pub count : t.count ≡ u.count
  pub functions : take (t.count * function_row) t.functions.now ≡ take (t.count * function_row) u.functions.now
  pub labels : take (total labels_at t * label_row) t.entries.labels.now ≡ take (total labels_at t * label_row) u.entries.labels.now
  pub pools : take (total pools_at t * pool_row) t.entries.pools.now ≡ take (total pools_at t * pool_row) u.entries.pools.now
  pub jump_tables : take (total jump_tables_at t * jump_table_row) t.entries.jump_tables.now ≡ take (total jump_tables_at t * jump_table_row) u.entries.jump_tables.now
  pub inline_tables : take (total inline_tables_at t * inline_table_row) t.entries.inline_tables.now ≡ take (total inline_tables_at t * inline_table_row) u.entries.inline_tables.now
  pub calls : take (total calls_at t * call_row) t.entries.calls.now ≡ take (total calls_at t * call_row) u.entries.calls.now

-- the same table, and the writer answers the same
pub record Same (t u : Table) : Type 0 where
  pub table : held_by t ≡ held_by u
  pub sound : sound t ≡ sound u
  pub answers : (places : ℕ) → answer t places ≡ answer u places

-- whatever stands behind, and however long their lists are
abbrev pub NothingBehind : Type 0
NothingBehind = (t u : Table) → Alike t u → Same t u
