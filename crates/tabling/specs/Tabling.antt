-- What the table program finds and writes for an input: the table of the accepted functions, and a line for each refused start.
-- Assumes nothing.
use Rattle.std.specs.Prelude.{◌≡◌, List, [], ◌∷◌, ◌++◌, ℕ, ◌-◌, ◌*◌, length, replicate, Option, Some, None}
use Rattle.std.specs.List.{sum_by}
use Rattle.base.specs.Refusals.{refusal_no}
use Rattle.base.specs.Choice.{pick}
use Rattle.base.specs.declared.refusal.Refusal.{Refusal}
use Rattle.base.specs.declared.refusal.Refusal.TheVariants.{NoRoom}
use Rattle.context.specs.Context.{label_row, pool_row, table_row, call_row}
use Rattle.context.specs.Lists.{Lists, maps_in}
use Rattle.context.specs.Turn.{no_maps, counts_of}
use Rattle.listing.specs.Lines.{field, newline}
use Rattle.listing.specs.Listing.{refusal_line}
use Rattle.stepper.specs.Stepper.{After}
use Rattle.table.specs.Table.{Function}
use Rattle.table.specs.File.{file_of, fits}
use Rattle.text.specs.Decimal.{decimal}
use Rattle.text.specs.Put.{put}
use Rattle.walk.specs.declared.Answer.{Answer}
use Rattle.walk.specs.declared.Answer.TheVariants.{Going, Accepted, Refused}
use Rattle.walk.specs.declared.Counts.{Counts}
use Rattle.walk.specs.declared.Options.{Options}
use Rattle.whole.specs.Whole.{run}
use Rattle.words.specs.Names.{bytes}
use Rattle.append.specs.Append.{function_of}
use Rattle.module_request.specs.ModuleRequest.{refused, starts_of, code_of, options_of}
use Rattle.tabling.specs.declared.Written.{Written}

-- how many entries of each kind a module's table has places for
abbrev pub places : Counts
places = record { labels = 1024; pools = 1024; jump_tables = 64; inline_tables = 64; calls = 1024 }

-- what a table has left of them
unfoldable pub left : List Function → Counts
left table = record {
  labels = places.labels - sum_by (λ f. length f.labels) table;
  pools = places.pools - sum_by (λ f. length f.pools) table;
  jump_tables = places.jump_tables - sum_by (λ f. length f.jump_tables) table;
  inline_tables = places.inline_tables - sum_by (λ f. length f.inline_tables) table;
  calls = places.calls - sum_by (λ f. length f.calls) table;
}

-- lists with so many places, of no entries
unfoldable pub empty_lists : Counts → Lists
empty_lists n = record {
  labels = replicate (n.labels * label_row) 0;
  pools = replicate (n.pools * pool_row) 0;
  jump_tables = replicate (n.jump_tables * table_row) 0;
  inline_tables = replicate (n.inline_tables * table_row) 0;
  calls = replicate (n.calls * call_row) 0;
}

-- a start's whole walk, lent so many places; it has no existing starts
unfoldable pub walked : Options → List ℕ → ℕ → Counts → After
walked o code start n = run o code [] start (counts_of no_maps) (empty_lists n)

-- a refused start: its refusal's number, the address, the start
unfoldable pub start_line : ℕ → ℕ → ℕ → List ℕ
start_line number address start = (((bytes "refused " ++ decimal number) ++ field address) ++ field start) ++ newline

-- a table, and a line for each refused start
pub record Found : Type 0 where
  pub table : List Function
  pub lines : List ℕ

-- an accepted function stands behind those before it; a refused start has a line
abbrev pub taken_by : ℕ → Answer → After → List Function → Found
taken_by start Going a table = record { table = table; lines = [] }
taken_by start (Accepted r) a table = record { table = table ++ (function_of r (maps_in a.walk.counts a.lists) ∷ []); lines = [] }
taken_by start (Refused refusal address register) a table = record { table = table; lines = start_line (refusal_no refusal) address start }

abbrev pub taken : ℕ → After → List Function → Found
taken start a table = taken_by start a.answer a table

module _ (o : Options) (code : List ℕ) where
  -- one start, lent what the table has left
  unfoldable pub found_at : ℕ → List Function → Found
  found_at start table = taken start (walked o code start (left table)) table

  abbrev pub followed : Found → Found → Found
  followed one others = record { table = others.table; lines = one.lines ++ others.lines }

  -- all starts, in order
  unfoldable pub found_from : List ℕ → List Function → Found
  found_from [] table = record { table = table; lines = [] }
  found_from (start ∷ starts) table = followed (found_at start table) (found_from starts (found_at start table).table)

-- ---- what is written

pub record Output : Type 0 where
  pub file : List ℕ
  pub lines : List ℕ

-- a table's file, or a line that says that so many bytes are too few for it
unfoldable pub filed : List Function → ℕ → Output
filed table room = pick (fits table room) (record { file = file_of table; lines = [] }) (record { file = []; lines = refusal_line (refusal_no NoRoom) 0 })

abbrev pub made_of : Found → ℕ → Output
made_of f room = record { file = (filed f.table room).file; lines = f.lines ++ (filed f.table room).lines }

-- a refused input has no file, and one line
abbrev pub made_in : Option Refusal → List ℕ → ℕ → Output
made_in (Some refusal) input room = record { file = []; lines = refusal_line (refusal_no refusal) 0 }
made_in None input room = made_of (found_from (options_of input) (code_of input) (starts_of input) []) room

-- of an input, where the file has so many bytes of room
abbrev pub made : List ℕ → ℕ → Output
made input room = made_in (refused input) input room

-- both stand at the start of their buffers, and every byte behind them is as it was
pub record Makes (o : Output) (out errors : List ℕ) (w : Written) (out_after errors_after : List ℕ) : Type 0 where
  pub file : out_after ≡ put out 0 o.file
  pub file_len : w.file ≡ length o.file
  pub lines : errors_after ≡ put errors 0 o.lines
  pub lines_len : w.lines ≡ length o.lines
