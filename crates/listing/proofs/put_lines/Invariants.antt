-- The invariant: the lines of the rows so far are written, and these with those to come are the list's.
use Rattle.base.proofs.Prelude.{◌≡◌, ◌≤◌, ◌+◌, ◌*◌, ◌++◌, length, map}
use Rattle.rows.specs.Map.{map_in}
use Rattle.text.specs.Writers.{Wrote}
use Rattle.listing.specs.Lines.{lines_of}
use Rattle.listing.proofs.put_lines.Given as goal

abbrev pub invariant-loop-row : goal.invariant-loop-row
invariant-loop-row l =
    let rows = map (λ r. r.now) l.yielded in
    let left = l.row-iterator in
    (goal.iterator-loop-row).can_next l.row-iterator
    × (goal.iterator-loop-row).is_finite l.row-iterator
    × (left.iter.size ≡ l.stride)
    × (left.n * l.stride ≤ length left.iter.rest.now)
    × (rows ++ map_in l.stride left.n left.iter.rest.now ≡ map_in l.stride l.count l.list)
    × (l.writer.at + 40 * left.n ≤ l.initial.writer.at + 40 * l.count)
    × Wrote l.initial.writer l.writer (lines_of l.name rows)
