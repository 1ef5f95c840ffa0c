-- `words::put_lines` meets its contract: each turn writes a line more.
use Rattle.base.proofs.Prelude.{◌≡◌, ◌/◌, arith, length}
use Rattle.text.proofs.Writers.{wrote_none, wrote_then}
use Rattle.words.specs.Lines.{line_as, lines_of}
use Rattle.words.proofs.Texts.{line-length, lines_more}
use Rattle.words.proofs.put_lines.Goals as goal

pub loop-i-init : goal.loop-i-init
unfolding lines_of
loop-i-init c = (omega arith, wrote_none _)

pub loop-i-preserved : goal.loop-i-preserved
loop-i-preserved c =
    let turn = c.loop-i in
    let args = c.args in (
      omega (arith, line-length args.text c.word_at.result),
      rw (lines_more (line_as args.text) args.input.now turn.i, ← c.word_at.ensures) (wrote_then turn.invariant.1 c.put_line_as.ensures),
    )

pub returns : goal.returns
returns c =
    let all : c.loop-i.i ≡ length c.args.input.now / 4 = omega arith in
    rw all at c.loop-i.invariant.1
