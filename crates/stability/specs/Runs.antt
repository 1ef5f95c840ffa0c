-- Document 01's runs: a begin, then any list of steps and finishes, each with the same code and options, the walk of the last begin or
-- step, and the lists as the last call left them. And what the theorem about them compares.
-- Assumes nothing.
use Rattle.std.specs.Prelude.{◌≡◌, List, [], ◌∷◌, ℕ, ◌+◌, ◌*◌, ◌-◌, ◌≤◌, ◌<◌, length, get_or}
use Rattle.std.specs.Prelude.{Some}
use Rattle.base.specs.Words.{word_from}
use Rattle.context.specs.Context.{pool_row}
use Rattle.context.specs.Lists.{Lists}
use Rattle.stepper.specs.Stepper.{After, begin, step, finish}
use Rattle.walk.specs.declared.Answer.TheVariants.{Accepted}
use Rattle.walk.specs.declared.Counts.{Counts}
use Rattle.walk.specs.declared.Options.{Options}
use Rattle.walk.specs.declared.Record.{Record}

-- what a host does between a begin and the next
pub data Action : Type 0 where
  steps : Action
  finishes : Action

module _ (o : Options) (code starts : List ℕ) where
  abbrev pub after_action : Action → After → After
  after_action steps x = step o code starts x.walk x.lists
  after_action finishes x = record { walk = x.walk; lists = x.lists; answer = finish x.walk }

  -- what stands after each call
  unfoldable pub run_from : After → List Action → List After
  run_from x [] = x ∷ []
  run_from x (k ∷ ks) = x ∷ run_from (after_action k x) ks

  -- the begin first
  unfoldable pub run : ℕ → Counts → Lists → List Action → List After
  run start n l ks = run_from (begin o start code starts n l) ks

-- one of the calls answered with the record
pub data Answers (r : Record) : List After → Type 0 where
  here : {x : After} {xs : List After} → x.answer ≡ Accepted r → Answers r (x ∷ xs)
  later : {x : After} {xs : List After} → Answers r xs → Answers r (x ∷ xs)

-- two codes agree at each address that the first has, at or above one address and below another
pub record Agree (c d : List ℕ) (base from to : ℕ) : Type 0 where
  pub at : (a : ℕ) → base ≤ a → from ≤ a → a < to → a < base + length c → get_or c (a - base) 0 ≡ get_or d (a - base) 0

-- every list is as long
pub record SameLengths (l m : Lists) : Type 0 where
  pub labels : length l.labels ≡ length m.labels
  pub pools : length l.pools ≡ length m.pools
  pub jump_tables : length l.jump_tables ≡ length m.jump_tables
  pub inline_tables : length l.inline_tables ≡ length m.inline_tables
  pub calls : length l.calls ≡ length m.calls

-- a pool's row: address, value, mark
abbrev pub address_at : List ℕ → ℕ → ℕ
address_at pools i = get_or pools (i * pool_row) 0

abbrev pub value_at : List ℕ → ℕ → ℕ
value_at pools i = get_or pools (i * pool_row + 1) 0

abbrev pub mark_at : List ℕ → ℕ → ℕ
mark_at pools i = get_or pools (i * pool_row + 2) 0

-- the first n pools are the same but for their values
pub record SamePools (n : ℕ) (p q : List ℕ) : Type 0 where
  pub lengths : length p ≡ length q
  pub addresses : (i : ℕ) → i < n → address_at p i ≡ address_at q i
  pub marks : (i : ℕ) → i < n → mark_at p i ≡ mark_at q i

-- the value of each of the first n pools is the word at its address in the code, and the places after them hold zero
pub record Valued (code : List ℕ) (base n : ℕ) (pools : List ℕ) : Type 0 where
  pub fits : n * pool_row ≤ length pools
  pub words : (i : ℕ) → i < n → word_from code base (address_at pools i) ≡ Some (value_at pools i)
  pub zeros : (i : ℕ) → n * pool_row ≤ i → get_or pools i 0 ≡ 0

-- equal answers, counts, sums of instruction bytes and entries, but that a pool's value is the word in that run's own code
pub record Same (c d : List ℕ) (base : ℕ) (x y : After) : Type 0 where
  pub answers : x.answer ≡ y.answer
  pub counts : x.walk.counts ≡ y.walk.counts
  pub bytes : x.walk.progress.instruction_bytes ≡ y.walk.progress.instruction_bytes
  pub labels : x.lists.labels ≡ y.lists.labels
  pub pools : SamePools x.walk.counts.pools x.lists.pools y.lists.pools
  pub jump_tables : x.lists.jump_tables ≡ y.lists.jump_tables
  pub inline_tables : x.lists.inline_tables ≡ y.lists.inline_tables
  pub calls : x.lists.calls ≡ y.lists.calls
  pub first_values : Valued c base x.walk.counts.pools x.lists.pools
  pub second_values : Valued d base y.walk.counts.pools y.lists.pools

-- call by call
pub data SameRuns (c d : List ℕ) (base : ℕ) : List After → List After → Type 0 where
  done : SameRuns c d base [] []
  more : {x y : After} {xs ys : List After} → Same c d base x y → SameRuns c d base xs ys → SameRuns c d base (x ∷ xs) (y ∷ ys)

-- what must hold of two codes, where a run on the first answers with the record: a run on the second answers with it too, and every run
-- on either, with lists of these lengths that hold anything, gives the same
pub record Keeps (o : Options) (start : ℕ) (starts c d : List ℕ) (lent : Lists) (actions : List Action) (r : Record) : Type 0 where
  pub accepted : (n : Counts) (l : Lists) → SameLengths lent l → Answers r (run o d starts start n l actions)
  pub same : (n n' : Counts) (l m : Lists) → SameLengths lent l → SameLengths lent m → (ks : List Action)
      → SameRuns c d o.base (run o c starts start n l ks) (run o d starts start n' m ks)

-- demand 3: an accepted start stays accepted with the same record, and every run from it gives the same answers and lists (pool values
-- aside), on any code in the program's range that is at least as long and agrees, where the first code has bytes, from the start to four
-- bytes past the last instruction's end
abbrev pub Stable : Type 0
Stable =
    (o : Options) (start : ℕ) (starts c d : List ℕ)
    → length c ≤ length d
    → o.base + length d ≤ 0x0300_0000
    → (n : Counts) (lent : Lists) (actions : List Action) (r : Record)
    → Answers r (run o c starts start n lent actions)
    → Agree c d o.base start (r.last_instruction_end + 4)
    → Keeps o start starts c d lent actions r
