-- What an input asks for, where it is a request; and the line's length.
-- Assumes nothing.
use Rattle.base.proofs.Prelude.{◌≡◌, List, ◌≤◌, ℕ, arith, length, length-append}
use Rattle.std.specs.Prelude.{Some}
use Rattle.base.specs.Refusals.{refusal_no}
use Rattle.context.specs.Lists.{Lists}
use Rattle.finder.specs.Finder.{found_by, found_in, found}
use Rattle.listing.specs.Lines.{newline}
use Rattle.listing.specs.Listing.{refusal_line}
use Rattle.listing.proofs.ListingLaws.{field-length}
use Rattle.request.specs.declared.Request.{Request}
use Rattle.request.specs.Request.{code_of, parsed}
use Rattle.tag.specs.declared.Tag.{Tag}
use Rattle.tag.specs.declared.Tag.TheVariants.{Percent, Refused}
use Rattle.text.proofs.Decimal.{decimal-short}
use Rattle.words.specs.Names.{bytes}
use Rattle.tagging.specs.Tagging.{tag_found_by, tag_found_in, tag_found, percent_line, tag_text, tag_room, FindsTag}

pub asked-tag : (input : List ℕ) (before after : Lists) (r : Request) (t : Tag) → parsed input ≡ Some r
    → FindsTag t after (tag_found_by r (code_of input) before) (found_by r (code_of input) before).lists
    → FindsTag t after (tag_found input before) (found input before).lists
unfolding tag_found tag_found_in found found_in
asked-tag input before after r t is h = rw is h

pub text-fits : (t : Tag) → length (tag_text t) ≤ tag_room
unfolding percent_line refusal_line newline bytes
text-fits (Percent quotient remainder) =
    simp length-append (omega (arith, decimal-short quotient, decimal-short remainder))
text-fits (Refused refusal address register) =
    simp (length-append, field-length) (omega (arith, decimal-short (refusal_no refusal)))
