-- `put_entries` meets its contract: each turn puts a row.
use Rattle.base.proofs.Prelude.{◌≤◌, arith, length, take, drop}
use Rattle.std.proofs.lemmas.List.{length-map}
use Rattle.text.proofs.Writers.{wrote_none, wrote_then}
use Rattle.table.specs.File.{numbers}
use Rattle.table.specs.Held.{flagged}
use Rattle.table.specs.File.{entry}
use Rattle.table.specs.Own.{flags}
use Rattle.table.proofs.Pieces.{wrote_more, room_more, wrote_all, room_then, room_first}
use Rattle.table.proofs.FileLaws.{entry-flagged, entries-chunks, numbers_long}
use Rattle.table.proofs.put.put_entries.Goals as goal

pub loop-row-init : goal.loop-row-init
loop-row-init g c = wrote_none _

pub put_numbers-requires : goal.put_numbers-requires
put_numbers-requires g c =
    let n = c.args.numbers in
    let row = c.row-item.result in
    let within : n ≤ length row = omega (arith, c.split_at.ensures.back_len) in
    let all = entries-chunks g.row.STRIDE n c.args.list.now _ c.as_chunks.ensures.front c.as_chunks.ensures.front_len in
    let room = room_more (λ r. entry n (flagged n r)) _ _ c.loop-row.invariant row c.loop-row-test.true (rw all at c.requires.3) in
    let parts = rw (← c.row-item.is, entry-flagged n row within) at room in
    rw c.split_at.ensures.front
    (rw numbers_long at (room_first c.loop-row.writer (numbers (take n row)) (flags (drop n row)) parts))

pub put_flags-requires : goal.put_flags-requires
put_flags-requires g c =
    let n = c.args.numbers in
    let row = c.row-item.result in
    let within : n ≤ length row = omega (arith, c.split_at.ensures.back_len) in
    let all = entries-chunks g.row.STRIDE n c.args.list.now _ c.as_chunks.ensures.front c.as_chunks.ensures.front_len in
    let room = room_more (λ r. entry n (flagged n r)) _ _ c.loop-row.invariant row c.loop-row-test.true (rw all at c.requires.3) in
    let parts = rw (← c.row-item.is, entry-flagged n row within, ← c.split_at.ensures.front, ← c.split_at.ensures.back) at room in
    rw length-map at (room_then (flags c.split_at.result.1.now) c.put_numbers.ensures parts)

pub loop-row-preserved : goal.loop-row-preserved
loop-row-preserved g c =
    let n = c.args.numbers in
    let row = c.row-item.result in
    let within : n ≤ length row = omega (arith, c.split_at.ensures.back_len) in
    wrote_more (λ r. entry n (flagged n r)) _ _ c.loop-row.invariant row c.loop-row-test.true
    (rw (← c.row-item.is, entry-flagged n row within, ← c.split_at.ensures.front, ← c.split_at.ensures.back) (wrote_then c.put_numbers.ensures c.put_flags.ensures))

pub returns : goal.returns
returns g c =
    let all = entries-chunks g.row.STRIDE c.args.numbers c.args.list.now _ c.as_chunks.ensures.front c.as_chunks.ensures.front_len in
    rw all (wrote_all (λ r. entry c.args.numbers (flagged c.args.numbers r)) _ _ c.loop-row.invariant c.loop-row-test.false)
