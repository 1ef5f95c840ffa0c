-- `copy_records` meets its contract: the rows so far, and one more.
use Rattle.base.proofs.Prelude.{◌∙◌, sym, ◌≡◌, ap, ◌+◌, ◌*◌, take, get_or, arith}
use Rattle.std.proofs.lemmas.List.{take_all}
use Rattle.calls.specs.Records.{row_of, numbers_of, none}
use Rattle.context.specs.Context.{call_row}
use Rattle.rows.specs.Map.{flat}
use Rattle.text.specs.Put.{put}
use Rattle.text.proofs.Put.{put-nil}
use Rattle.append.proofs.RecordLaws.{records-more}
use Rattle.append.proofs.copying.copy_records.Goals as goal

pub returns : goal.returns
returns c =
    let all : take c.loop-i.i c.args.calls.now ≡ c.args.calls.now = take_all _ _ c.loop-i-test.false in
    c.loop-i.invariant ∙ ap (λ r. put c.args.out.now c.args.at (numbers_of r)) all

pub loop-i-init : goal.loop-i-init
unfolding flat
loop-i-init c = sym (put-nil c.args.out.now c.args.at)

pub loop-i-preserved : goal.loop-i-preserved
loop-i-preserved c =
    c.put.ensures ∙ ap (λ r. put r (c.args.at + c.loop-i.i * call_row) (row_of (get_or c.args.calls.now c.loop-i.i none))) c.loop-i.invariant
    ∙ records-more c.args.calls.now c.loop-i.i none c.args.out.now c.args.at c.loop-i-test.true (omega arith)
