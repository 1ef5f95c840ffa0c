-- `entries_ascend` meets its contract: each turn settles one function.
use Rattle.base.proofs.Prelude.{◌∙◌, sym, ◌≡◌, arith, add-one, drop-cons, drop_of_length-le, length, []}
use Rattle.table.proofs.HeldLaws.{sound-short, sound-unordered, sound-more, sound_none, split-fits, split-past, lists-rise-own}
use Rattle.table.proofs.entries_ascend.Goals as goal

pub returns-in_default : goal.returns-in_default
returns-in_default c =
    let now = c.loop-row in
    rw (now.invariant, drop-cons c.args.rows.now now.row-index [] c.loop-row-test.true)
    (sym (sound-short _ _ _ c.in_default.ensures))

pub returns-then-not-ascend : goal.returns-then-not-ascend
returns-then-not-ascend c =
    let now = c.loop-row in
    let falls = sym (lists-rise-own c.in-Some.ensures) ∙ sym c.ascend.ensures ∙ c.if-not-ascend.true in
    rw (now.invariant, drop-cons c.args.rows.now now.row-index [] c.loop-row-test.true)
    (sym (sound-unordered _ _ _ falls))

pub loop-row-preserved : goal.loop-row-preserved
loop-row-preserved c =
    let now = c.loop-row in
    let rises = sym (lists-rise-own c.in-Some.ensures) ∙ sym c.ascend.ensures ∙ c.if-not-ascend.false in
    rw (now.invariant, drop-cons c.args.rows.now now.row-index [] c.loop-row-test.true, split-past c.in-Some.ensures, add-one)
    (sound-more _ _ _ (split-fits c.in-Some.ensures) rises)

pub returns : goal.returns
returns c =
    let now = c.loop-row in
    let none : length c.args.rows.now ≡ now.row-index = omega arith in
    sym (now.invariant ∙ rw (drop_of_length-le c.args.rows.now {i = now.row-index} (omega arith)) (sound_none _))
