-- What the tag program finds and prints for an input, which is one of the listing program.
-- Assumes nothing.
use Rattle.std.specs.Prelude.{ℕ, ◌≡◌, List, [], ◌∷◌, ◌++◌, Option, Some, None, Result}
use Rattle.base.specs.Refusals.{refusal_no}
use Rattle.base.specs.declared.refusal.Refusal.TheVariants.{BadRequest}
use Rattle.context.specs.Lists.{Lists}
use Rattle.context.specs.Turn.{no_maps, counts_of}
use Rattle.finder.specs.Finder.{found_by, found}
use Rattle.invariants.specs.Bytes.{bytes_of}
use Rattle.listing.specs.Lines.{newline}
use Rattle.listing.specs.Listing.{refusal_line}
use Rattle.request.specs.declared.Request.{Request}
use Rattle.request.specs.Request.{code_of, parsed}
use Rattle.tag.specs.declared.Tag.{Tag}
use Rattle.tag.specs.declared.Tag.TheVariants.{Percent, Refused}
use Rattle.tag.specs.Tag.{tag_by}
use Rattle.text.specs.Decimal.{decimal}
use Rattle.words.specs.Answer.{Answered}
use Rattle.words.specs.Names.{bytes}
use Rattle.words.specs.declared.NoRoom.{NoRoom}

-- the tag of the walk that the listing program lists
unfoldable pub tag_found_by : Request → List ℕ → Lists → Tag
tag_found_by r code l = tag_by (found_by r code l).answer (bytes_of r.options code [] r.start (counts_of no_maps) l)

-- what is no request is refused as 16
unfoldable pub tag_found_in : Option Request → List ℕ → Lists → Tag
tag_found_in (Some r) input l = tag_found_by r (code_of input) l
tag_found_in None input l = Refused BadRequest 0 0

unfoldable pub tag_found : List ℕ → Lists → Tag
tag_found input l = tag_found_in (parsed input) input l

-- quotient and remainder in decimal
unfoldable pub percent_line : ℕ → ℕ → List ℕ
percent_line quotient remainder = (((bytes "tag " ++ decimal quotient) ++ (32 ∷ [])) ++ decimal remainder) ++ newline

abbrev pub tag_text : Tag → List ℕ
tag_text (Percent quotient remainder) = percent_line quotient remainder
tag_text (Refused refusal address register) = refusal_line (refusal_no refusal) address

-- how many bytes the buffer must have: two numbers of 20 digits and six bytes more
abbrev pub tag_room : ℕ
tag_room = 46

-- this is the tag, and every place of every list holds what the listing program leaves there
pub record FindsTag (t : Tag) (lists : Lists) (tag : Tag) (after : Lists) : Type 0 where
  pub tells : t ≡ tag
  pub holds : lists ≡ after

-- the line in the buffer, and the same of the lists
pub record ListsTag (input : List ℕ) (before after : Lists) (out : List ℕ) (r : Result ℕ NoRoom) (left : List ℕ) : Type 0 where
  pub text : Answered (tag_text (tag_found input before)) tag_room out r left
  pub holds : after ≡ (found input before).lists
