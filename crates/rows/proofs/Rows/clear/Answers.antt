-- `rows::Rows::clear` meets its contract. The rows' places are filled, and those after them were zero.
use Rattle.base.proofs.Prelude.{◌≡◌, ◌*◌, length, take, replicate, length-take-le, rules}
use Rattle.rows.proofs.MapLaws.{held-cleared}
use Rattle.rows.proofs.Rows.clear.Goals as goal

pub returns : goal.returns
returns g c =
    let end = c.args.count * g.row.STRIDE in
    let filled : c.fill.new.self ≡ replicate (length (take end c.args.list.now)) 0 = search rules in
    let long : length (take end c.args.list.now) ≡ end = length-take-le end c.args.list.now c.requires.fits in
    rw (filled, long) (held-cleared c.requires)
