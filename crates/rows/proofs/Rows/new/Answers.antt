-- `rows::Rows::new` meets its contract. The library's chunks are the rows.
use Rattle.base.proofs.Prelude.{◌≤◌, ◌/◌, length}
use native.Mathlib.Nat.{le-div_iff_mul-le}
use Rattle.rows.proofs.MapLaws.{chunks-are}
use Rattle.rows.proofs.Rows.new.Goals as goal

pub invariant_of-result : goal.invariant_of-result
invariant_of-result g c =
    let room : c.args.count ≤ length c.args.list.now / g.row.STRIDE = (le-div_iff_mul-le {k = g.row.STRIDE} {x = c.args.count} {y = length c.args.list.now} c.requires.0.some).1 c.requires.0.fits in
    record { some = c.requires.0.some; sized = c.requires.1; rises = rw (c.as_chunks.ensures.front, chunks-are g.row.STRIDE c.args.count (length c.args.list.now / g.row.STRIDE) c.args.list.now room) c.requires.0.rises }

pub returns : goal.returns
returns g c =
    let room : c.args.count ≤ length c.args.list.now / g.row.STRIDE = (le-div_iff_mul-le {k = g.row.STRIDE} {x = c.args.count} {y = length c.args.list.now} c.requires.0.some).1 c.requires.0.fits in
    rw c.as_chunks.ensures.front (chunks-are g.row.STRIDE c.args.count (length c.args.list.now / g.row.STRIDE) c.args.list.now room)
