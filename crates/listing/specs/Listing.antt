-- Document 01: the listing of an answer and its lists.
-- Assumes nothing.
use Rattle.std.specs.Prelude.{ℕ, ◌+◌, ◌*◌, ◌/◌, ◌≤◌, min, List, [], ◌++◌, length}
use Rattle.base.specs.Refusals.{refusal_no}
use Rattle.context.specs.Context.{Maps, label_row, pool_row, table_row, call_row}
use Rattle.context.specs.Lists.{Lists, maps_in}
use Rattle.text.specs.Decimal.{decimal}
use Rattle.walk.specs.declared.Answer.{Answer}
use Rattle.walk.specs.declared.Answer.TheVariants.{Going, Accepted, Refused}
use Rattle.walk.specs.declared.Counts.{Counts}
use Rattle.walk.specs.declared.Record.{Record}
use Rattle.words.specs.Names.{bytes}
use Rattle.listing.specs.Lines.{field, two_digits, newline, lines_of}
-- what the lists hold
pub use Rattle.lists.specs.Lists.{rows_of}

-- start, end, first instruction, last instruction end, how many registers the first instruction saves
unfoldable pub record_line : Record → List ℕ
record_line r =
    (((((bytes "function" ++ field r.start)
    ++ field r.end)
    ++ field r.first_instruction)
    ++ field r.last_instruction_end)
    ++ two_digits r.saved_registers)
    ++ newline

unfoldable pub refusal_line : ℕ → ℕ → List ℕ
refusal_line number address = ((bytes "refused " ++ decimal number) ++ field address) ++ newline

unfoldable pub list_lines : Maps → List ℕ
list_lines m =
    (((lines_of (bytes "label") m.labels
    ++ lines_of (bytes "pool") m.pools)
    ++ lines_of (bytes "jump") m.jump_tables)
    ++ lines_of (bytes "inline") m.inline_tables)
    ++ lines_of (bytes "call") m.calls

-- a walk that goes on has no listing yet
unfoldable pub text_with : Answer → Maps → List ℕ
text_with Going m = []
text_with (Accepted r) m = record_line r ++ list_lines m
text_with (Refused refusal address register) m = refusal_line (refusal_no refusal) address

-- a count that a host made up lists no more rows than its list has places for
unfoldable pub shown : Lists → Counts → Counts
shown l n = record {
  labels = min n.labels (length l.labels / label_row);
  pools = min n.pools (length l.pools / pool_row);
  jump_tables = min n.jump_tables (length l.jump_tables / table_row);
  inline_tables = min n.inline_tables (length l.inline_tables / table_row);
  calls = min n.calls (length l.calls / call_row);
}

unfoldable pub text_of : Answer → Lists → Counts → List ℕ
text_of answer l n = text_with answer (maps_in (shown l n) l)

-- how many bytes the buffer must have: 48 for the first line, and 40 for each other, the longest
unfoldable pub room_with : Counts → ℕ
room_with n = 48 + 40 * (n.labels + n.pools + n.jump_tables + n.inline_tables + n.calls)

unfoldable pub room_for : Lists → Counts → ℕ
room_for l n = room_with (shown l n)

-- each count has its places
pub record Fitting (l : Lists) (n : Counts) : Type 0 where
  pub labels : n.labels * label_row ≤ length l.labels
  pub pools : n.pools * pool_row ≤ length l.pools
  pub jump_tables : n.jump_tables * table_row ≤ length l.jump_tables
  pub inline_tables : n.inline_tables * table_row ≤ length l.inline_tables
  pub calls : n.calls * call_row ≤ length l.calls
