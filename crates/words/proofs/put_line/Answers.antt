-- `words::put_line` meets its contract: its five pieces, one after the other, are the line of the word that is decoded.
use Rattle.base.proofs.Prelude.{arith}
use Rattle.text.specs.Hex.{hex, digits}
use Rattle.text.proofs.Writers.{wrote_then}
use Rattle.arm.proofs.ConditionLaws.{condition-number}
use Rattle.words.specs.Names.{bytes, conditions}
use Rattle.words.specs.Lines.{ins_line_of, line_of, tail_of}
use Rattle.words.proofs.Tables.{letters, condition-row, condition-short}
use Rattle.words.proofs.Texts.{head-length}
use Rattle.words.proofs.put_line.Goals as goal

pub bounds-from : goal.bounds-from
bounds-from c =
    let field = condition-number c.args.word 0 (omega (arith, c)) in
    rw (c.from.ensures, c.decode-ins.ensures) (omega (arith, c, field))

pub put_field-requires : goal.put_field-requires
unfolding letters bytes conditions
put_field-requires c =
    let ins = c.decode-ins.result in
    rw (condition-row c.from.result) (omega (arith, head-length c.args.word ins.class, condition-short c.from.result))

pub put_set-requires : goal.put_set-requires
unfolding letters bytes conditions
put_set-requires c =
    let ins = c.decode-ins.result in
    let letters = rw (condition-row c.from.result) at c.put_field.ensures in
    omega (arith, head-length c.args.word ins.class, condition-short c.from.result)

pub put_set-requires-2 : goal.put_set-requires-2
unfolding letters bytes conditions hex digits
put_set-requires-2 c =
    let ins = c.decode-ins.result in
    let letters = rw (condition-row c.from.result) at c.put_field.ensures in
    omega (arith, head-length c.args.word ins.class, condition-short c.from.result)

pub put_field-requires-2 : goal.put_field-requires-2
unfolding letters bytes conditions hex digits
put_field-requires-2 c =
    let ins = c.decode-ins.result in
    let letters = rw (condition-row c.from.result) at c.put_field.ensures in
    omega (arith, head-length c.args.word ins.class, condition-short c.from.result)

pub returns : goal.returns
unfolding letters bytes conditions line_of ins_line_of tail_of
returns c =
    let ins = c.decode-ins.result in
    let letters = rw (condition-row c.from.result) at c.put_field.ensures in
    rw (← c.decode-ins.ensures, ← c.from.ensures, ← c.flag_letter.ensures)
    (wrote_then (wrote_then (wrote_then (wrote_then c.put_head.ensures letters) c.put_set.ensures) c.put_set-2.ensures) c.put_field-2.ensures)
