-- `total` meets its contract: a sum so far that is above what the list has is not more than the whole.
use Rattle.base.proofs.Prelude.{◌∙◌, sym, ◌≡◌, ◌<◌, ◌+◌, ◌/◌, ◌*◌, take, get_or, length, leb, false, arith, lt-leb}
use Rattle.std.proofs.lemmas.Grind.{common_steps}
use Rattle.std.proofs.lemmas.List.Sums.{sum_by-take-le}
use Rattle.append.specs.Append.{total}
use Rattle.append.proofs.CheckLaws.{leb-rows}
use Rattle.append.proofs.total.Goals as goal

pub returns-then-most-sum : goal.returns-then-most-sum
returns-then-most-sum c =
    let here = c.loop-row.row-index in
    let next : c.in_ok-sum.sum ≡ total c.args.at (take (here + 1) c.args.rows.now) = grind (arith, common_steps, c.loop-row.invariant.sum, c.in_ok-sum.ensures) in
    let part = sum_by-take-le (λ row. get_or row c.args.at 0) c.args.rows.now (here + 1) in
    let over : length c.args.list.now / c.args.stride < total c.args.at c.args.rows.now = omega (arith, part) in
    let short : leb (total c.args.at c.args.rows.now * c.args.stride) (length c.args.list.now) ≡ false =
    sym (leb-rows _ c.args.stride (length c.args.list.now) c.requires.some) ∙ lt-leb _ _ over in
    rw short
