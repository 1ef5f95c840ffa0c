-- `put_function` meets its contract: the heading, and one list after another.
use Rattle.base.proofs.Prelude.{arith, rules}
use Rattle.text.proofs.Writers.{wrote_then}
use Rattle.table.specs.Held.{lists_of}
use Rattle.table.proofs.Pieces.{room_then}
use Rattle.table.proofs.FileLaws.{function-own, function-room}
use Rattle.table.proofs.put.put_function.Goals as goal

pub put_heading-requires : goal.put_heading-requires
put_heading-requires c = (function-room c.args.writer.now c.args.row.now (lists_of c.args.own) (search rules) c.requires.0 c.requires.1).heading

pub put_entries-requires : goal.put_entries-requires
put_entries-requires c =
    let room = function-room c.args.writer.now c.args.row.now (lists_of c.args.own) (search rules) c.requires.0 c.requires.1 in
    (omega arith, omega arith, omega arith, room_then _ c.put_heading.ensures room.labels)

pub put_entries-requires-2 : goal.put_entries-requires-2
put_entries-requires-2 c =
    let room = function-room c.args.writer.now c.args.row.now (lists_of c.args.own) (search rules) c.requires.0 c.requires.1 in
    (omega arith, omega arith, omega arith, room_then _ (wrote_then c.put_heading.ensures c.put_entries.ensures) room.pools)

pub put_entries-requires-3 : goal.put_entries-requires-3
put_entries-requires-3 c =
    let room = function-room c.args.writer.now c.args.row.now (lists_of c.args.own) (search rules) c.requires.0 c.requires.1 in
    let two = wrote_then (wrote_then c.put_heading.ensures c.put_entries.ensures) c.put_entries-2.ensures in
    (omega arith, omega arith, omega arith, room_then _ two room.jump_tables)

pub put_entries-requires-4 : goal.put_entries-requires-4
put_entries-requires-4 c =
    let room = function-room c.args.writer.now c.args.row.now (lists_of c.args.own) (search rules) c.requires.0 c.requires.1 in
    let two = wrote_then (wrote_then c.put_heading.ensures c.put_entries.ensures) c.put_entries-2.ensures in
    (omega arith, omega arith, omega arith, room_then _ (wrote_then two c.put_entries-3.ensures) room.inline_tables)

pub put_entries-requires-5 : goal.put_entries-requires-5
put_entries-requires-5 c =
    let room = function-room c.args.writer.now c.args.row.now (lists_of c.args.own) (search rules) c.requires.0 c.requires.1 in
    let two = wrote_then (wrote_then c.put_heading.ensures c.put_entries.ensures) c.put_entries-2.ensures in
    (omega arith, omega arith, omega arith, room_then _ (wrote_then (wrote_then two c.put_entries-3.ensures) c.put_entries-4.ensures) room.calls)

pub returns : goal.returns
returns c =
    let two = wrote_then (wrote_then c.put_heading.ensures c.put_entries.ensures) c.put_entries-2.ensures in
    rw (function-own c.args.row.now (lists_of c.args.own) (search rules) c.requires.0)
    (wrote_then (wrote_then (wrote_then two c.put_entries-3.ensures) c.put_entries-4.ensures) c.put_entries-5.ensures)
