-- Document 01's marked runs, C1 to C12, in its order.
-- Assumes nothing.
use Rattle.std.specs.Prelude.{ℕ, zero, suc, ◌/◌, ◌%◌, Bool, true, false, List, [], ◌∷◌, length, replicate}
use Rattle.base.specs.declared.refusal.Refusal.TheVariants.{BranchOutside, UndefinedRegister, NoEpilogue}
use Rattle.context.specs.Blocks.{other, call, arm}
use Rattle.context.specs.Context.{Maps}
use Rattle.context.specs.Lists.{Lists, lists}
use Rattle.context.specs.Turn.{counts_of}
use Rattle.rows.specs.Map.{encode}
use Rattle.stepper.specs.Stepper.{After, begin, step, finish}
use Rattle.walk.specs.declared.Answer.{Answer}
use Rattle.walk.specs.declared.Answer.TheVariants.{Accepted, Refused}
use Rattle.walk.specs.declared.Counts.{Counts}
use Rattle.std.specs.Prelude.{Option, Some, None}
use Rattle.walk.specs.declared.Options.{Options}

-- a run of the table: its words and options, its answer, and the rows of each list
pub record Marked : Type 0 where
  pub words : List ℕ
  pub base : ℕ
  pub module_end : ℕ
  pub known_end : Option ℕ
  pub check : Bool
  pub answer : Answer
  pub maps : Maps

abbrev pub row :
    List ℕ → ℕ → ℕ → Option ℕ → Bool → Answer → List (List ℕ) → List (List ℕ) → List (List ℕ) → List (List ℕ) → List (List ℕ) → Marked
row words base end known check answer labels pools jumps inlines calls = record {
  words = words;
  base = base;
  module_end = end;
  known_end = known;
  check = check;
  answer = answer;
  maps = record { labels = labels; pools = pools; jump_tables = jumps; inline_tables = inlines; calls = calls };
}

-- a record from the start at 0x02000000, with its end and its last instruction's; its first instruction saves so many registers
abbrev pub saving : ℕ → ℕ → ℕ → Answer
saving registers end last = Accepted (record {
  start = 0x0200_0000;
  end = end;
  first_instruction = 0x0200_0000;
  last_instruction_end = last;
  saved_registers = registers;
})

-- none of document 01's runs begins with an entry
abbrev pub accepted : ℕ → ℕ → Answer
accepted end last = saving 0 end last

-- words, base, module end, known end, check, answer; then labels (address), pools (address, value, mark), jump tables and inline tables
-- (address, size), calls (address, word, destination, mode). A refusal has its name, address and register.
abbrev pub table : List Marked
table =
    -- C1
    row (0xE59F_0000 ∷ 0xE12F_FF1E ∷ 0x1234_5678 ∷ []) 0x0200_0000 0x0200_000C None false (accepted 0x0200_000C 0x0200_0008)
    [] ((0x0200_0008 ∷ 0x1234_5678 ∷ other ∷ []) ∷ []) [] [] []
    -- C2
    ∷ row (0xE59F_0000 ∷ 0xE12F_FF1E ∷ 0x1234_5678 ∷ []) 0x0200_0000 0x0200_0008 None false (Refused NoEpilogue 0 0)
    [] [] [] [] []
    -- C3
    ∷ row (0xE12F_FF1E ∷ []) 0x0200_0000 0x0200_0004 None false (accepted 0x0200_0004 0x0200_0004)
    [] [] [] [] []
    -- C4
    ∷ row [] 0x0200_0000 0x0200_0000 None false (Refused NoEpilogue 0 0)
    [] [] [] [] []
    -- C5
    ∷ row (0xEAFF_FFFE ∷ []) 0x0200_0000 0x0200_0004 None false (accepted 0x0200_0004 0x0200_0004)
    [] [] [] [] []
    -- C6
    ∷ row (0x0AFF_FFFD ∷ []) 0x01FF_8000 0x01FF_8004 None false (Refused BranchOutside 0x01FF_8000 0)
    [] [] [] [] []
    -- C7
    ∷ row (0xEA00_003E ∷ 0xE12F_FF1E ∷ []) 0x0200_0000 0x0200_0008 None false (accepted 0x0200_0008 0x0200_0008)
    [] [] [] [] ((0x0200_0000 ∷ 0xEA00_003E ∷ 0x0200_0100 ∷ arm ∷ []) ∷ [])
    -- C8
    ∷ row (0xE350_0002 ∷ 0x908F_F100 ∷ 0xEA00_0002 ∷ 0xEA00_0001 ∷ 0xEA00_0000 ∷ 0xEAFF_FFFF ∷ 0xE12F_FF1E ∷ [])
    0x0200_0000 0x0200_001C None false (accepted 0x0200_001C 0x0200_001C)
    ((0x0200_0018 ∷ []) ∷ []) [] ((0x0200_000C ∷ 12 ∷ []) ∷ []) [] []
    -- C9
    ∷ row (0xE59F_C000 ∷ 0xE12F_FF1C ∷ 0x0000_0000 ∷ []) 0x0200_0000 0x0200_000C None false (accepted 0x0200_000C 0x0200_0008)
    [] ((0x0200_0008 ∷ 0x0000_0000 ∷ call ∷ []) ∷ []) [] [] []
    -- C10
    ∷ row (0xE350_0000 ∷ 0xE350_0000 ∷ 0x908F_F100 ∷ 0xE12F_FF1E ∷ []) 0x0200_0000 0x0200_0010 None false (accepted 0x0200_0010 0x0200_0010)
    [] [] [] [] []
    -- C11
    ∷ row (0xE12F_FF1E ∷ []) 0x0200_0000 0x0200_0008 (Some 0x0200_0008) false (accepted 0x0200_0008 0x0200_0004)
    [] [] [] [] []
    -- C12, check off
    ∷ row (0xE1A0_0004 ∷ 0xE12F_FF1E ∷ []) 0x0200_0000 0x0200_0008 None false (accepted 0x0200_0008 0x0200_0008)
    [] [] [] [] []
    -- C12, check on
    ∷ row (0xE1A0_0004 ∷ 0xE12F_FF1E ∷ []) 0x0200_0000 0x0200_0008 None true (Refused UndefinedRegister 0x0200_0000 4)
    [] [] [] [] []
    ∷ []

-- code, four bytes to a word, the lowest first
unfoldable pub bytes : List ℕ → List ℕ
bytes [] = []
bytes (w ∷ ws) = w % 0x100 ∷ w / 0x100 % 0x100 ∷ w / 0x1_0000 % 0x100 ∷ w / 0x100_0000 ∷ bytes ws

-- the module starts at base
abbrev pub options_of : Marked → Options
options_of m = record { base = m.base; module_start = m.base; module_end = m.module_end; known_end = m.known_end; check = m.check }

-- so many places in each list, which hold something before the begin, and so do the counts
abbrev pub places : ℕ → ℕ → ℕ → ℕ → ℕ → Counts
places labels pools jumps inlines calls = record { labels = labels; pools = pools; jump_tables = jumps; inline_tables = inlines; calls = calls }

abbrev pub some : ℕ → List ℕ
some n = replicate n 7

abbrev pub lent : Counts → Lists
lent n = lists (some n.labels) (some n.pools) (some n.jump_tables) (some n.inline_tables) (some n.calls)

abbrev pub lent_counts : Counts
lent_counts = record { labels = 3; pools = 3; jump_tables = 3; inline_tables = 3; calls = 3 }

-- so many steps
unfoldable pub steps : ℕ → Options → List ℕ → After → After
steps zero o code r = r
steps (suc n) o code r = steps n o code (step o code [] r.walk r.lists)

-- begin, and one step more than there are words
abbrev pub begins : Counts → Marked → After
begins n m = begin (options_of m) m.base (bytes m.words) [] lent_counts (lent n)

unfoldable pub ran : Counts → Marked → After
ran n m = steps (suc (length m.words)) (options_of m) (bytes m.words) (begins n m)

-- what is compared: finish's answer, and every list with its count
pub record Outcome : Type 0 where
  pub answer : Answer
  pub lists : Lists
  pub counts : Counts

abbrev pub outcome : After → Outcome
outcome r = record { answer = finish r.walk; lists = r.lists; counts = r.walk.counts }

-- with so many places in each list
unfoldable pub given_in : Counts → Marked → Outcome
given_in n m = outcome (ran n m)

-- the rows one after another, and zeros after them
unfoldable pub expected_in : Counts → Marked → Outcome
expected_in n m = record {
  answer = m.answer;
  lists =
      lists (encode n.labels m.maps.labels) (encode n.pools m.maps.pools)
      (encode n.jump_tables m.maps.jump_tables) (encode n.inline_tables m.maps.inline_tables)
      (encode n.calls m.maps.calls);
  counts = counts_of m.maps;
}

-- four rows fit each list; three lists have places besides, too few for a row
abbrev pub four_rows : Counts
four_rows = places 4 14 9 8 19

abbrev pub given : Marked → Outcome
given m = given_in four_rows m

abbrev pub expected : Marked → Outcome
expected m = expected_in four_rows m
