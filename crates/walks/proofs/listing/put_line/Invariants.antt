-- The invariant: the name and the numbers so far are written.
use Rattle.base.proofs.Prelude.{◌≡◌, ◌+◌, ◌*◌, length}
use Rattle.walks.proofs.listing.put_line.Given as goal

abbrev pub invariant-loop-number : goal.invariant-loop-number
invariant-loop-number l =
    (length l.writer.out.now ≡ length l.initial.writer.out.now)
    × (l.writer.at ≡ l.initial.writer.at + 9 * l.number-index)
