-- `write_listing` is safe: its buffer has room for every text, and what it writes lies within it.
use Rattle.std.proofs.Common.{arith, sym}
use lib.Seq.{length-take-le}
use Rattle.finder.proofs.FinderLaws.{listed-within, never-short}
use Rattle.finder.proofs.PlaceLaws.{listed-entries}
use Rattle.finder.proofs.output.write_listing.Goals as goal

pub text_length-length-requires : goal.text_length-length-requires
text_length-length-requires g c =
    let listed = c.list_function-answer.ensures.listed in
    never-short listed (omega (arith, listed-entries listed, c.list_function-answer.auto))

pub slice_bounds-write_all-end : goal.slice_bounds-write_all-end
slice_bounds-write_all-end g c = listed-within c.list_function-answer.ensures.listed c.text_length-length.ensures

pub slice_bounds-write_all-end-2 : goal.slice_bounds-write_all-end-2
slice_bounds-write_all-end-2 g c = sym (length-take-le _ _ (listed-within c.list_function-answer.ensures.listed c.text_length-length.ensures))
