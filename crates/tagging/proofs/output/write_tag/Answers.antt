-- `write_tag` is safe: the line that it writes lies within its buffer.
use Rattle.std.proofs.Common.{sym}
use lib.Seq.{length-take-le}
use Rattle.words.proofs.Texts.{within}
use Rattle.tagging.proofs.Laws.{text-fits}
use Rattle.tagging.proofs.output.write_tag.Goals as goal

pub slice_bounds-out-end : goal.slice_bounds-out-end
slice_bounds-out-end g c = within c.tag_function-answer.ensures.listed.text c.text_length-length.ensures (text-fits _)

pub slice_bounds-write_all-end : goal.slice_bounds-write_all-end
slice_bounds-write_all-end g c = sym (length-take-le _ _ (within c.tag_function-answer.ensures.listed.text c.text_length-length.ensures (text-fits _)))
