-- The text of an input, and what its writer answers and leaves in the buffer.
-- Assumes nothing.
use Rattle.std.specs.Prelude.{ℕ, ◌*◌, ◌/◌, ◌%◌, ◌≡◌, Bool, false, List, Result, Ok, Err, eqb, leb, ◌≤◌, length, take}
use Rattle.base.specs.Choice.{pick}
use Rattle.text.specs.Put.{put}
use Rattle.words.specs.declared.NoRoom.{NoRoom}
use Rattle.words.specs.declared.Text.{Text}
use Rattle.words.specs.declared.Text.TheVariants.{Decode, Class}
use Rattle.words.specs.Names.{bytes}
use Rattle.words.specs.Lines.{line_as, lines_of}

-- whole words, and at most 16,384 of them
unfoldable pub accepted : List ℕ → Bool
accepted input = pick (eqb (length input % 4) 0) (leb (length input) 65536) false

-- what stands in place of the lines of any other input
unfoldable pub refusal : List ℕ
refusal = bytes "refused 16 00000000\n"

-- a line for each word
unfoldable pub text_as : Text → List ℕ → List ℕ
text_as text input = pick (accepted input) (lines_of (line_as text) input (length input / 4)) refusal

unfoldable pub text_of : List ℕ → List ℕ
text_of input = text_as Decode input

unfoldable pub class_text_of : List ℕ → List ℕ
class_text_of input = text_as Class input

-- how many bytes the buffer must have: 32 for each word, the longest line; 20 for a refusal
unfoldable pub room_for : List ℕ → ℕ
room_for input = pick (accepted input) (32 * (length input / 4)) 20

-- the answer where the buffer is too short
abbrev pub no_room : NoRoom
no_room = record {}

-- with that room the answer is the text's length, and the text stands at the buffer's start, where all after it is as it was;
-- with less the buffer is left alone
pub record Answered (text : List ℕ) (room : ℕ) (before : List ℕ) (r : Result ℕ NoRoom) (after : List ℕ) : Type 0 where
  pub answer : r ≡ pick (leb room (length before)) (Ok (length text)) (Err no_room)
  pub buffer : after ≡ pick (leb room (length before)) (put before 0 text) before

-- what `out` holds after `output::run`: the text of the first so many bytes of `input`, where it has the room
pub record Translated (text : Text) (input : List ℕ) (before after : List ℕ) : Type 0 where
  pub count : ℕ
  pub fits : count ≤ length input
  pub buffer : after ≡ pick (leb (room_for (take count input)) (length before)) (put before 0 (text_as text (take count input))) before
