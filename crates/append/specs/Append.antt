-- A walk's record and its maps put behind a table in lent lists.
-- Assumes nothing.
use Rattle.std.specs.Prelude.{◌≡◌, Bool, true, List, [], ◌∷◌, ◌++◌, ℕ, ◌+◌, ◌*◌, ◌-◌, ◌^◌, ◌<◌, ◌≤◌, map, ltb, leb, length, get_or, slice_get}
use Rattle.std.specs.Prelude.{Option, Some, None, Result, Ok, Err}
use Rattle.std.specs.List.{sum_by}
use Rattle.std.specs.Result.{is_ok, result_map_both}
use Rattle.base.specs.Choice.{pick, both}
use Rattle.base.specs.declared.refusal.Refusal.{Refusal}
use Rattle.base.specs.declared.refusal.Refusal.TheVariants.{BadLists, NoRoom}
use Rattle.context.specs.Context.{Maps}
use Rattle.context.specs.Lists.{maps_in, Lists as Walked}
use Rattle.lists.specs.Lists.{are_in_order}
use Rattle.rows.specs.Map.{flat, map_in}
use Rattle.table.specs.Table.{Function}
use Rattle.table.specs.Held.{function_row, label_row, pool_row, jump_table_row, inline_table_row, call_row, labels_at, pools_at, jump_tables_at, inline_tables_at, calls_at}
use Rattle.table.specs.Held.{Lists, lists_of, flagged, table_in, fits_lists}
use Rattle.table.specs.Split.{first_of}
use Rattle.table.specs.declared.Table.{Table}
use Rattle.text.specs.Put.{put}
use Rattle.walk.specs.declared.Counts.{Counts}
use Rattle.walk.specs.declared.Record.{Record}
use Rattle.append.specs.declared.TableMut.{TableMut}

-- lists that hold a table of so many functions
pub record Lent : Type 0 where
  pub functions : List ℕ
  pub count : ℕ
  pub lists : Lists

abbrev pub lent_by : TableMut → Lent
lent_by t = record {
  functions = t.functions.now;
  count = t.count;
  lists = record { labels = t.labels.now; pools = t.pools.now; jump_tables = t.jump_tables.now; inline_tables = t.inline_tables.now; calls = t.calls.now };
}

-- the same of a table that is only read
abbrev pub shared_by : Table → Lent
shared_by t = record { functions = t.functions.now; count = t.count; lists = lists_of t.entries }

-- the table
abbrev pub table_of : Lent → List Function
table_of t = table_in t.count t.functions t.lists

-- the function of a record and a walk's maps
unfoldable pub function_of : Record → Maps → Function
function_of r m = record {
  start = r.start;
  end = r.end;
  first_instruction = r.first_instruction;
  last_instruction_end = r.last_instruction_end;
  saved_registers = r.saved_registers;
  labels = m.labels;
  pools = map (flagged 2) m.pools;
  jump_tables = m.jump_tables;
  inline_tables = m.inline_tables;
  calls = map (flagged 3) m.calls;
}

-- its row
unfoldable pub row_of : Record → Counts → List ℕ
row_of r n =
    r.start ∷ r.end ∷ r.first_instruction ∷ r.last_instruction_end ∷ r.saved_registers
    ∷ n.labels ∷ n.pools ∷ n.jump_tables ∷ n.inline_tables ∷ n.calls ∷ []

-- ---- number 4

abbrev pub rows_of : Lent → List (List ℕ)
rows_of t = map_in function_row t.count t.functions

-- the functions and their entries have their places
unfoldable pub fits : Lent → Bool
fits t = both (leb (t.count * function_row) (length t.functions)) (fits_lists (rows_of t) t.lists)

-- an address is above a row's first instruction
abbrev pub is_above : ℕ → Option (List ℕ) → Bool
is_above a None = true
is_above a (Some row) = ltb (first_of row) a

-- the last of some rows
abbrev pub last_of : List (List ℕ) → Option (List ℕ)
last_of rows = slice_get rows (length rows - 1)

-- no count is above its list, a walk's lists are in order at theirs, and the function comes after the last one
unfoldable pub is_next : ℕ → Counts → Walked → Lent → Bool
is_next first n l t = both (fits t) (both (are_in_order n l) (is_above first (last_of (rows_of t))))

-- ---- number 18

-- how many entries the functions have of a kind, by their count's place in a row
abbrev pub total : ℕ → List (List ℕ) → ℕ
total at rows = sum_by (λ row. get_or row at 0) rows

abbrev pub totals : List (List ℕ) → Counts
totals rows = record {
  labels = total labels_at rows;
  pools = total pools_at rows;
  jump_tables = total jump_tables_at rows;
  inline_tables = total inline_tables_at rows;
  calls = total calls_at rows;
}

-- how many entries the table has of each kind
abbrev pub used : Lent → Counts
used t = totals (rows_of t)

-- so many rows behind others have their places in a list, and a function's row has one for their count
unfoldable pub has_room : ℕ → ℕ → ℕ → List ℕ → Bool
has_room stride others n list = both (ltb n (2 ^ 32)) (leb ((others + n) * stride) (length list))

unfoldable pub has_places : Counts → Counts → Lent → Bool
has_places u n t =
    both (leb ((t.count + 1) * function_row) (length t.functions))
    (both (has_room label_row u.labels n.labels t.lists.labels)
    (both (has_room pool_row u.pools n.pools t.lists.pools)
    (both (has_room jump_table_row u.jump_tables n.jump_tables t.lists.jump_tables)
    (both (has_room inline_table_row u.inline_tables n.inline_tables t.lists.inline_tables)
    (has_room call_row u.calls n.calls t.lists.calls)))))

-- ---- what an append answers and leaves

-- how many entries the table has; or 4, and then 18
unfoldable pub checked : ℕ → Counts → Walked → Lent → Result Counts Refusal
checked first n l t = pick (is_next first n l t) (pick (has_places (used t) n t) (Ok (used t)) (Err NoRoom)) (Err BadLists)

unfoldable pub answer : Record → Counts → Walked → Lent → Result (Unit {0}) Refusal
answer r n l t = result_map_both (λ used. tt) (λ refusal. refusal) (checked r.first_instruction n l t)

-- the entries behind those of the table
abbrev pub filled : Counts → Maps → Lists → Lists
filled u m l = record {
  labels = put l.labels (u.labels * label_row) (flat m.labels);
  pools = put l.pools (u.pools * pool_row) (flat m.pools);
  jump_tables = put l.jump_tables (u.jump_tables * jump_table_row) (flat m.jump_tables);
  inline_tables = put l.inline_tables (u.inline_tables * inline_table_row) (flat m.inline_tables);
  calls = put l.calls (u.calls * call_row) (flat m.calls);
}

abbrev pub with_lists : Lists → Lent → Lent
with_lists l t = record { functions = t.functions; count = t.count; lists = l }

-- the function's row behind those of the table, and its entries; every other place as it was
unfoldable pub appended : Record → Counts → Maps → Lent → Lent
appended r n m t = record {
  functions = put t.functions (t.count * function_row) (row_of r n);
  count = t.count + 1;
  lists = filled (used t) m t.lists;
}

-- the table has the function behind those before; a refused append leaves every place as it was
pub record Appended (r : Record) (n : Counts) (l : Walked) (before : Lent) (result : Result (Unit {0}) Refusal) (after : Lent) : Type 0 where
  pub says : result ≡ answer r n l before
  pub leaves : after ≡ pick (is_ok result) (appended r n (maps_in n l) before) before
  pub holds : table_of after ≡ pick (is_ok result) (table_of before ++ (function_of r (maps_in n l) ∷ [])) (table_of before)

-- ---- what inner functions require

-- each count fits a function's row
pub record Few (n : Counts) : Type 0 where
  pub labels : n.labels < 2 ^ 32
  pub pools : n.pools < 2 ^ 32
  pub jump_tables : n.jump_tables < 2 ^ 32
  pub inline_tables : n.inline_tables < 2 ^ 32
  pub calls : n.calls < 2 ^ 32

-- so many rows are in a walk's list, and have their places in the table's behind others
pub record Fits (stride others n : ℕ) (from to : List ℕ) : Type 0 where
  pub held : n * stride ≤ length from
  pub room : (others + n) * stride ≤ length to

pub record Room (u n : Counts) (l : Walked) (t : Lists) : Type 0 where
  pub labels : Fits label_row u.labels n.labels l.labels t.labels
  pub pools : Fits pool_row u.pools n.pools l.pools t.pools
  pub jump_tables : Fits jump_table_row u.jump_tables n.jump_tables l.jump_tables t.jump_tables
  pub inline_tables : Fits inline_table_row u.inline_tables n.inline_tables l.inline_tables t.inline_tables
  pub calls : Fits call_row u.calls n.calls l.calls t.calls

-- they are the places that they were
pub record IsSame (a b : TableMut) : Type 0 where
  pub functions : b.functions.ghost_name ≡ a.functions.ghost_name
  pub labels : b.labels.ghost_name ≡ a.labels.ghost_name
  pub pools : b.pools.ghost_name ≡ a.pools.ghost_name
  pub jump_tables : b.jump_tables.ghost_name ≡ a.jump_tables.ghost_name
  pub inline_tables : b.inline_tables.ghost_name ≡ a.inline_tables.ghost_name
  pub calls : b.calls.ghost_name ≡ a.calls.ghost_name
