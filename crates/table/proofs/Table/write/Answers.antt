-- `Table::write` meets its contract: the pieces are the file, and have room where it has.
use Rattle.base.proofs.Prelude.{ap, arith, rules, length}
use Rattle.text.proofs.Writers.{wrote_then}
use Rattle.table.proofs.FileLaws.{rows-many}
use Rattle.table.proofs.WriteLaws.{filed, filed_bad, filed_no-room, body-within, rows-fit, functions-room}
use Rattle.table.proofs.Table.write.Goals as goal

pub returns-in_default : goal.returns-in_default
returns-in_default c = filed_bad _ c.in_default.ensures

pub returns-in_default-body_len : goal.returns-in_default-body_len
returns-in_default-body_len c = filed_no-room c.in-Some.ensures _ c.in_default-body_len.ensures

pub put_number-requires : goal.put_number-requires
put_number-requires c =
    let within = body-within _ _ _ c.in-Some-body_len.ensures in
    let made = c.new-writer.ensures in
    omega (arith, within.room, made.start, ap length made.unwritten)

pub put_byte-requires : goal.put_byte-requires
put_byte-requires c =
    let within = body-within _ _ _ c.in-Some-body_len.ensures in
    let made = c.new-writer.ensures in
    omega (arith, within.room, made.start, ap length made.unwritten, c.put_number.ensures.text.next, c.put_number.ensures.long, rows-many c.in-Some.rows.now)

pub overflow_cast-rows : goal.overflow_cast-rows
overflow_cast-rows c =
    let within = body-within _ _ _ c.in-Some-body_len.ensures in
    omega (arith, within.few, rows-many c.in-Some.rows.now)

pub put_number-requires-2 : goal.put_number-requires-2
put_number-requires-2 c =
    let within = body-within _ _ _ c.in-Some-body_len.ensures in
    let made = c.new-writer.ensures in
    omega (arith, within.room, made.start, ap length made.unwritten, c.put_number.ensures.text.next, c.put_number.ensures.long, c.put_byte.ensures.text.next, c.put_byte.ensures.long, rows-many c.in-Some.rows.now)

pub put_functions-requires : goal.put_functions-requires
put_functions-requires c =
    let within = body-within _ _ _ c.in-Some-body_len.ensures in
    let made = c.new-writer.ensures in
    let first = wrote_then (wrote_then c.put_number.ensures c.put_byte.ensures) c.put_number-2.ensures in
    (rows-fit c.in-Some.ensures, omega (arith, within.room, made.start, ap length made.unwritten, first.text.next, first.long, functions-room c.in-Some.ensures))

pub returns : goal.returns
returns c =
    filed c.in-Some.ensures c.in-Some-body_len.len (body-within _ _ _ c.in-Some-body_len.ensures) c.new-writer.ensures.start c.new-writer.ensures.unwritten
    (wrote_then (wrote_then (wrote_then c.put_number.ensures c.put_byte.ensures) c.put_number-2.ensures) c.put_functions.ensures)
    (search rules)
