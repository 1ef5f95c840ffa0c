-- `TableMut::append` meets its contract.
use Rattle.base.proofs.Prelude.{refl, ◌≡◌, ap, ◌^◌, ◌<◌, ◌*◌, length, rules, arith}
use Rattle.std.specs.Prelude.{Err}
use Rattle.append.specs.Append.{Lent, row_of}
use Rattle.append.proofs.AppendLaws.{put-appended}
use Rattle.append.proofs.CheckLaws.{refused-appended, ok-passed, passed-few, passed-room, passed-row}
use Rattle.append.proofs.TableMut.append.Goals as goal

pub returns-in_err-used-clause-appended : goal.returns-in_err-used-clause-appended
returns-in_err-used-clause-appended g c =
    let same : c.from_residual.result ≡ Err c.in_err-used.field-0.0 = search rules in
    rw same (refused-appended _ _ _ _ c.args.found refl _ c.in_err-used.ensures)

pub overflow_mul-self : goal.overflow_mul-self
overflow_mul-self g c =
    let p = (ok-passed _ _ _ _ _ c.in_ok-used.ensures).0.room in
    let size : length c.args.self.now.functions.now * 4 < 2 ^ 63 = search rules in
    omega (arith, p)

pub row_of-requires : goal.row_of-requires
row_of-requires g c = passed-few _ _ _ _ (ok-passed _ _ _ _ _ c.in_ok-used.ensures).0

pub put-requires : goal.put-requires
unfolding row_of
put-requires g c = let p = passed-row _ _ _ _ (ok-passed _ _ _ _ _ c.in_ok-used.ensures).0 in rw c.row_of.ensures (omega (arith, p))

pub put_entries-requires : goal.put_entries-requires
put_entries-requires g c = let p = ok-passed _ _ _ _ _ c.in_ok-used.ensures in rw p.1 (passed-room _ _ _ _ p.0)

pub overflow_add-self : goal.overflow_add-self
overflow_add-self g c =
    let p = (ok-passed _ _ _ _ _ c.in_ok-used.ensures).0.room in
    let same = ap (λ (t : Lent). t.count) c.put_entries.ensures.filled in
    let size : length c.args.self.now.functions.now * 4 < 2 ^ 63 = search rules in
    omega (arith, p, same)

pub returns-clause-appended : goal.returns-clause-appended
returns-clause-appended g c = put-appended _ _ _ _ _ _ _ _ c.in_ok-used.ensures c.row_of.ensures c.put.ensures c.put_entries.ensures.filled
