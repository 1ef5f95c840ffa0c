-- What the code asks before a start is taken, and what it leaves.
-- Assumes nothing.
use Rattle.std.specs.Prelude.{◌≡◌, true, List, ℕ, ◌+◌, ◌-◌, ◌*◌, ◌≤◌, ◌<◌, length}
use Rattle.context.specs.Context.{label_row, pool_row, table_row, call_row}
use Rattle.context.specs.Lists.{Lists, places_of}
use Rattle.table.specs.Held.{function_row}
use Rattle.walk.specs.declared.Counts.{Counts}
use Rattle.walk.specs.declared.Options.{Options}
use Rattle.append.specs.Append.{Lent, table_of, rows_of, is_above, last_of}
use Rattle.append_laws.specs.Kept.{holds_table}
use Rattle.tabling.specs.Tabling.{places, left, found_at}

-- a refused start's line has no more bytes
abbrev pub line_room : ℕ
line_room = 30

-- the numbers of so many entries
abbrev pub rows_for : Counts → Counts
rows_for n = record {
  labels = n.labels * label_row;
  pools = n.pools * pool_row;
  jump_tables = n.jump_tables * table_row;
  inline_tables = n.inline_tables * table_row;
  calls = n.calls * call_row;
}

abbrev pub without : Counts → Counts → Counts
without n k = record {
  labels = n.labels - k.labels;
  pools = n.pools - k.pools;
  jump_tables = n.jump_tables - k.jump_tables;
  inline_tables = n.inline_tables - k.inline_tables;
  calls = n.calls - k.calls;
}

pub record Within (k n : Counts) : Type 0 where
  pub labels : k.labels ≤ n.labels
  pub pools : k.pools ≤ n.pools
  pub jump_tables : k.jump_tables ≤ n.jump_tables
  pub inline_tables : k.inline_tables ≤ n.inline_tables
  pub calls : k.calls ≤ n.calls

-- lists have so many places
pub record Has (n : Counts) (l : Lists) : Type 0 where
  pub labels : n.labels * label_row ≤ length l.labels
  pub pools : n.pools * pool_row ≤ length l.pools
  pub jump_tables : n.jump_tables * table_row ≤ length l.jump_tables
  pub inline_tables : n.inline_tables * table_row ≤ length l.inline_tables
  pub calls : n.calls * call_row ≤ length l.calls

-- the lists of a table have its places
pub record Lends (t : Lent) : Type 0 where
  pub labels : length t.lists.labels ≡ places.labels * label_row
  pub pools : length t.lists.pools ≡ places.pools * pool_row
  pub jump_tables : length t.lists.jump_tables ≡ places.jump_tables * table_row
  pub inline_tables : length t.lists.inline_tables ≡ places.inline_tables * table_row
  pub calls : length t.lists.calls ≡ places.calls * call_row

-- a table that is kept, with so many entries left
pub record Kept (t : Lent) (n : Counts) : Type 0 where
  pub lends : Lends t
  pub sound : holds_table t ≡ true
  pub left : n ≡ left (table_of t)

-- and that has a row for one function more, whose start comes after all
pub record Readied (t : Lent) (n : Counts) (start : ℕ) : Type 0 where
  pub kept : Kept t n
  pub row : (t.count + 1) * function_row ≤ length t.functions
  pub next : is_above start (last_of (rows_of t)) ≡ true

-- and lists with as many places as it has left
pub record Ready (l : Lists) (t : Lent) (n : Counts) (start : ℕ) : Type 0 where
  pub places : places_of l ≡ rows_for n
  pub readied : Readied t n start

-- a start was taken
pub record Took (o : Options) (code : List ℕ) (start : ℕ) (before after : Lent) (n : Counts) : Type 0 where
  pub table : table_of after ≡ (found_at o code start (table_of before)).table
  pub kept : Kept after n
  pub functions : length after.functions ≡ length before.functions
  pub count : after.count ≤ before.count + 1
  pub next : (s : ℕ) → start < s → is_above s (last_of (rows_of after)) ≡ true

-- before all starts: no function, and a row for each start
pub record AllReady (l : Lists) (t : Lent) (starts : ℕ) : Type 0 where
  pub walk : places_of l ≡ rows_for places
  pub lends : Lends t
  pub rows : starts * function_row ≤ length t.functions
  pub none : t.count ≡ 0
