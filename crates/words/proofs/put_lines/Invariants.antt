-- The invariant: the lines of the first i words are written.
use Rattle.base.proofs.Prelude.{◌≤◌, ◌+◌, ◌*◌}
use Rattle.text.specs.Writers.{Wrote}
use Rattle.words.specs.Lines.{line_as, lines_of}
use Rattle.words.proofs.put_lines.Given as goal

abbrev pub invariant-loop-i : goal.invariant-loop-i
invariant-loop-i l = (l.writer.at ≤ l.initial.writer.at + 32 * l.i) × Wrote l.initial.writer l.writer (lines_of (line_as l.text) l.input l.i)
