-- The five lent lists: a slice of rows for each map.
-- Assumes nothing.
use Rattle.std.specs.Prelude.{List, ℕ, ◌+◌, ◌≤◌, length}
use Rattle.rows.specs.Map.{map_in, Held, encode}
use Rattle.walk.specs.declared.Counts.{Counts}
use Rattle.walk.specs.declared.Options.{Options}
use Rattle.context.specs.declared.Module.{Module}
use Rattle.context.specs.Context.{Maps, Given, label_row, pool_row, table_row, call_row}
use Rattle.context.specs.Turn.{no_maps}

pub record Lists : Type 0 where
  pub labels : List ℕ
  pub pools : List ℕ
  pub jump_tables : List ℕ
  pub inline_tables : List ℕ
  pub calls : List ℕ

abbrev pub lists : List ℕ → List ℕ → List ℕ → List ℕ → List ℕ → Lists
lists labels pools jumps inlines calls = record { labels = labels; pools = pools; jump_tables = jumps; inline_tables = inlines; calls = calls }

-- the maps of these counts
abbrev pub maps_in : Counts → Lists → Maps
maps_in n l = record {
  labels = map_in label_row n.labels l.labels;
  pools = map_in pool_row n.pools l.pools;
  jump_tables = map_in table_row n.jump_tables l.jump_tables;
  inline_tables = map_in table_row n.inline_tables l.inline_tables;
  calls = map_in call_row n.calls l.calls;
}

-- each list holds a map of its count, and zeros after it
pub record AllHeld (n : Counts) (l : Lists) : Type 0 where
  pub labels : Held label_row n.labels l.labels
  pub pools : Held pool_row n.pools l.pools
  pub jump_tables : Held table_row n.jump_tables l.jump_tables
  pub inline_tables : Held table_row n.inline_tables l.inline_tables
  pub calls : Held call_row n.calls l.calls

-- the lists with these maps in them: the rows one after another, and zero in every place after them
abbrev pub written : Lists → Maps → Lists
written l m = record {
  labels = encode (length l.labels) m.labels;
  pools = encode (length l.pools) m.pools;
  jump_tables = encode (length l.jump_tables) m.jump_tables;
  inline_tables = encode (length l.inline_tables) m.inline_tables;
  calls = encode (length l.calls) m.calls;
}

-- zero in every place
abbrev pub zeroed : Lists → Lists
zeroed l = written l no_maps

abbrev pub places_of : Lists → Counts
places_of l = record { labels = length l.labels; pools = length l.pools; jump_tables = length l.jump_tables; inline_tables = length l.inline_tables; calls = length l.calls }

-- what a walk is given: the host's choices, the lists' places, the code, and the existing starts as a map
abbrev pub given_by : Options → List ℕ → List ℕ → Lists → Given
given_by o code starts l = record { options = o; places = places_of l; code = code; starts = map_in 1 (length starts) starts }

-- the same of a module
abbrev pub given_to : Module → Lists → Given
given_to m l = given_by m.options m.code.now m.starts.now l

-- a module whose code lies in the addresses of a program, and whose starts ascend
pub record Sound (m : Module) : Type 0 where
  pub fits : m.options.base + length m.code.now ≤ 0x0300_0000
  pub ascend : Held 1 (length m.starts.now) m.starts.now
