-- `translate` is safe: the text that it writes lies within its buffer.
use Rattle.std.proofs.Common.{sym}
use lib.Seq.{length-take-le}
use Rattle.words.proofs.Texts.{text-fits, within}
use Rattle.words.proofs.output.translate.Goals as goal

pub slice_bounds-write_all-end : goal.slice_bounds-write_all-end
slice_bounds-write_all-end g c = within c.text_into.ensures c.in-Ok.is (text-fits c.args.text _)

pub slice_bounds-write_all-end-in-Ok : goal.slice_bounds-write_all-end-in-Ok
slice_bounds-write_all-end-in-Ok g c = sym (length-take-le _ _ (within c.text_into.ensures c.in-Ok.is (text-fits c.args.text _)))
