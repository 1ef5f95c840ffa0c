-- `main` is safe: the text that it writes lies within its buffer.
use Rattle.std.proofs.Common.{sym}
use lib.Seq.{length-take-le}
use Rattle.census_text.proofs.TextLaws.{text-fits}
use Rattle.words.proofs.Texts.{within}
use Rattle.census.proofs.main.Goals as goal

pub slice_bounds-out-end : goal.slice_bounds-out-end
slice_bounds-out-end c = within c.census_text.ensures c.in-Ok.is text-fits

pub slice_bounds-write_all-end : goal.slice_bounds-write_all-end
slice_bounds-write_all-end c = sym (length-take-le _ _ (within c.census_text.ensures c.in-Ok.is text-fits))
