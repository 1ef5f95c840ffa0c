-- A table in numbers alone: what an append and the writer return and leave.
-- Assumes nothing.
use Rattle.std.specs.Prelude.{◌≡◌, List, [], ◌∷◌, ℕ, ◌+◌, length, Result, Ok, Err}
use Rattle.base.specs.Choice.{pick}
use Rattle.base.specs.Refusals.{refusal_no}
use Rattle.base.specs.declared.refusal.Refusal.{Refusal}
use Rattle.base.specs.declared.refusal.Refusal.TheVariants.{BadLists, NoRoom}
use Rattle.context.specs.Lists.{Lists as Walked}
use Rattle.table.specs.Held.{Lists, table_in, is_sound}
use Rattle.table.specs.File.{file_of, fits, output_of}
use Rattle.walk.specs.declared.Counts.{Counts}
use Rattle.walk.specs.declared.Record.{Record}
use Rattle.append.specs.Append.{Lent, answer, Appended}

abbrev pub record_by : ℕ → ℕ → ℕ → ℕ → ℕ → Record
record_by start end first last saved = record { start = start; end = end; first_instruction = first; last_instruction_end = last; saved_registers = saved }

abbrev pub counts_by : ℕ → ℕ → ℕ → ℕ → ℕ → Counts
counts_by labels pools jumps inlines calls = record { labels = labels; pools = pools; jump_tables = jumps; inline_tables = inlines; calls = calls }

abbrev pub lists_by : List ℕ → List ℕ → List ℕ → List ℕ → List ℕ → Lists
lists_by labels pools jumps inlines calls = record { labels = labels; pools = pools; jump_tables = jumps; inline_tables = inlines; calls = calls }

abbrev pub lent_by : List ℕ → ℕ → Lists → Lent
lent_by functions count lists = record { functions = functions; count = count; lists = lists }

-- 0, or a refusal's number
abbrev pub append_number : Result (Unit {0}) Refusal → ℕ
append_number (Ok done) = 0
append_number (Err refusal) = refusal_no refusal

-- one function more, where it is not refused
abbrev pub count_after : Result (Unit {0}) Refusal → ℕ → ℕ
count_after (Ok done) count = count + 1
count_after (Err refusal) count = count

-- an append returned the number, and left the table's lists
pub record AppendsIn (number : ℕ) (r : Record) (n : Counts) (l : Walked) (before : Lent) (functions : List ℕ) (lists : Lists) : Type 0 where
  pub returns : number ≡ append_number (answer r n l before)
  pub leaves : Appended r n l before (answer r n l before) (lent_by functions (count_after (answer r n l before) before.count) lists)

-- the writer's answer: number 4 before number 18; else how many bytes the file has
unfoldable pub write_answer : Lent → ℕ → Result ℕ Refusal
write_answer t places =
    pick (is_sound t.count t.functions t.lists)
    (pick (fits (table_in t.count t.functions t.lists) places) (Ok (length (file_of (table_in t.count t.functions t.lists)))) (Err NoRoom))
    (Err BadLists)

abbrev pub write_number : Result ℕ Refusal → ℕ
write_number (Ok n) = 0
write_number (Err refusal) = refusal_no refusal

-- 0 where nothing is written
abbrev pub write_length : Result ℕ Refusal → ℕ
write_length (Ok n) = n
write_length (Err refusal) = 0

pub record WritesIn (number : ℕ) (length_after : List ℕ) (t : Lent) (before after : List ℕ) : Type 0 where
  pub returns : number ≡ write_number (write_answer t (length before))
  pub tells : length_after ≡ write_length (write_answer t (length before)) ∷ []
  pub leaves : after ≡ output_of (write_answer t (length before)) (file_of (table_in t.count t.functions t.lists)) before
