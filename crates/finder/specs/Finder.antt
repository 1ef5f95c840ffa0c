-- Document 01: what the listing program finds and prints for an input.
-- Assumes nothing.
use Rattle.std.specs.Prelude.{ℕ, ◌≡◌, ◌+◌, ◌/◌, List, [], Option, Some, None, Result, length}
use Rattle.base.specs.declared.refusal.Refusal.TheVariants.{BadRequest}
use Rattle.context.specs.Context.{label_row, pool_row, table_row, call_row}
use Rattle.context.specs.Lists.{Lists}
use Rattle.context.specs.Turn.{no_maps, counts_of}
use Rattle.stepper.specs.Stepper.{After, refused}
use Rattle.listing.specs.Listing.{text_of, room_for}
use Rattle.lists.specs.declared.Lists.{Lists as Lent}
use Rattle.lists.specs.Lists.{lists_of, IsSame as Same}
use Rattle.request.specs.declared.Request.{Request}
use Rattle.request.specs.Request.{code_of, parsed}
use Rattle.walk.specs.declared.Answer.{Answer}
use Rattle.walk.specs.declared.Counts.{Counts}
use Rattle.whole.specs.Whole.{run}
use Rattle.std.specs.Borrow.{MutBor}
use Rattle.words.specs.Answer.{Answered}
use Rattle.words.specs.declared.NoRoom.{NoRoom}
use Rattle.finder.specs.declared.Outcome.{Outcome}

-- what is listed: an answer, the lists after it and their counts
pub record Listing : Type 0 where
  pub answer : Answer
  pub lists : Lists
  pub counts : Counts

abbrev pub listing_of : After → Listing
listing_of a = record { answer = a.answer; lists = a.lists; counts = a.walk.counts }

-- the whole walk, with no existing starts and no entries yet
unfoldable pub found_by : Request → List ℕ → Lists → Listing
found_by r code l = listing_of (run r.options code [] r.start (counts_of no_maps) l)

-- what is no request is refused as 16, and no list changes
unfoldable pub found_in : Option Request → List ℕ → Lists → Listing
found_in (Some r) input l = found_by r (code_of input) l
found_in None input l = record { answer = refused BadRequest; lists = l; counts = counts_of no_maps }

unfoldable pub found : List ℕ → Lists → Listing
found input l = found_in (parsed input) input l

-- what lists whose calls are rows of numbers hold
abbrev pub rows_of : Lent (MutBor (List ℕ)) → Lists
rows_of l = lists_of (λ s. s.now) l

-- they are the places that they were
abbrev pub IsSame : Lent (MutBor (List ℕ)) → Lent (MutBor (List ℕ)) → Type 0
IsSame = Same (λ s t. t.ghost_name ≡ s.ghost_name)

-- these were found
pub record Finds (f : Outcome) (lists : Lists) (g : Listing) : Type 0 where
  pub answers : f.answer ≡ g.answer
  pub counted : f.counts ≡ g.counts
  pub holds : lists ≡ g.lists

abbrev pub text_by : Listing → List ℕ
text_by g = text_of g.answer g.lists g.counts

abbrev pub room_by : Listing → ℕ
room_by g = room_for g.lists g.counts

-- the text in the buffer, and what every place of every list holds
pub record Listed (input : List ℕ) (before after : Lists) (out : List ℕ) (r : Result ℕ NoRoom) (left : List ℕ) : Type 0 where
  pub text : Answered (text_by (found input before)) (room_by (found input before)) out r left
  pub holds : after ≡ (found input before).lists

-- how many entries the lists have places for
abbrev pub entries_in : Lists → ℕ
entries_in l =
    length l.labels / label_row + length l.pools / pool_row + length l.jump_tables / table_row + length l.inline_tables / table_row
    + length l.calls / call_row
