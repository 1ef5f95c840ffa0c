-- The file of a table, byte by byte, and what its writer answers and leaves.
-- Assumes nothing.
use Rattle.std.specs.Prelude.{◌≡◌, Bool, List, [], ◌∷◌, ◌++◌, ℕ, ◌^◌, leb, ltb, length, take, drop, Result, Ok, Err}
use Rattle.std.specs.Int.{w32, to_be_bytes}
use Rattle.std.specs.List.{flat_map}
use Rattle.base.specs.Choice.{pick, both}
use Rattle.base.specs.declared.refusal.Refusal.{Refusal}
use Rattle.base.specs.declared.refusal.Refusal.TheVariants.{BadLists, NoRoom}
use Rattle.text.specs.Put.{put}
use Rattle.table.specs.Table.{Function}
use Rattle.table.specs.Held.{held_by, sound}
use Rattle.table.specs.declared.Table.{Table}

-- four bytes, the highest first
abbrev pub number : ℕ → List ℕ
number n = to_be_bytes w32 n

unfoldable pub numbers : List ℕ → List ℕ
numbers ns = flat_map number ns

-- an entry's first n numbers, and each number after them as one byte
unfoldable pub entry : ℕ → List ℕ → List ℕ
entry n row = numbers (take n row) ++ drop n row

unfoldable pub entries : ℕ → List (List ℕ) → List ℕ
entries n rows = flat_map (entry n) rows

-- four addresses, five counts, and the entries. How many registers a function saves is no part of the file
unfoldable pub heading : Function → List ℕ
heading f =
    f.start ∷ f.end ∷ f.first_instruction ∷ f.last_instruction_end
    ∷ length f.labels ∷ length f.pools ∷ length f.jump_tables ∷ length f.inline_tables ∷ length f.calls ∷ []

unfoldable pub function : Function → List ℕ
function f =
    ((((numbers (heading f) ++ entries 1 f.labels) ++ entries 2 f.pools) ++ entries 2 f.jump_tables) ++ entries 2 f.inline_tables)
    ++ entries 3 f.calls

abbrev pub version : ℕ
version = 1

-- what follows the length
unfoldable pub body : List Function → List ℕ
body table = version ∷ number (length table) ++ flat_map function table

unfoldable pub file_of : List Function → List ℕ
file_of table = number (length (body table)) ++ body table

-- ---- the writer

-- the length fits four bytes, and the whole file fits the output
unfoldable pub fits : List Function → ℕ → Bool
fits table places = both (ltb (length (body table)) (2 ^ 32)) (leb (length (file_of table)) places)

-- number 4 before number 18; else how many bytes the file has
unfoldable pub answer : Table → ℕ → Result ℕ Refusal
answer t places = pick (sound t) (pick (fits (held_by t) places) (Ok (length (file_of (held_by t)))) (Err NoRoom)) (Err BadLists)

-- the file at the start of what was there, and all behind it as it was; on a refusal all of it
abbrev pub output_of : Result ℕ Refusal → List ℕ → List ℕ → List ℕ
output_of (Ok n) file before = put before 0 file
output_of (Err refusal) file before = before

pub record Filed (t : Table) (before : List ℕ) (r : Result ℕ Refusal) (after : List ℕ) : Type 0 where
  pub says : r ≡ answer t (length before)
  pub leaves : after ≡ output_of r (file_of (held_by t)) before
