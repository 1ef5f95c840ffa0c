-- `rows::Rows::insert` meets its contract. By what its callees ensure.
use Rattle.base.proofs.Prelude.{◌∙◌, sym, ◌≡◌, arith, length, rules}
use Rattle.rows.proofs.InsertLaws.{moved-up, at-fits, held_fits, before-end, replaces, adds, is-full}
use Rattle.rows.proofs.Rows.insert.Goals as goal

pub overflow_mul-start : goal.overflow_mul-start
overflow_mul-start g c =
    let long : length c.args.row ≡ g.row.STRIDE = search rules in
    let held = c.requires.0 in
    let are = c.new-rows.ensures in
    let found = c.find-at.ensures in
    omega (arith, at-fits c.args.row held long are found)

pub put-requires : goal.put-requires
put-requires g c =
    let long : length c.args.row ≡ g.row.STRIDE = search rules in
    let held = c.requires.0 in
    let are = c.new-rows.ensures in
    let found = c.find-at.ensures in
    held_fits c.args.row held long are found (sym c.if-is_at.true ∙ c.is_at.ensures)

pub returns-then-is_at : goal.returns-then-is_at
returns-then-is_at g c =
    let long : length c.args.row ≡ g.row.STRIDE = search rules in
    let held = c.requires.0 in
    let are = c.new-rows.ensures in
    let found = c.find-at.ensures in
    replaces c.args.row held long are found (sym c.if-is_at.true ∙ c.is_at.ensures) c.put.ensures

pub returns-then-list-end : goal.returns-then-list-end
returns-then-list-end g c =
    let long : length c.args.row ≡ g.row.STRIDE = search rules in
    let held = c.requires.0 in
    let are = c.new-rows.ensures in
    let found = c.find-at.ensures in
    is-full c.args.row held long are found (sym c.if-is_at.false ∙ c.is_at.ensures) (omega (arith, held.fits))

pub overflow_add-start : goal.overflow_add-start
overflow_add-start g c =
    let long : length c.args.row ≡ g.row.STRIDE = search rules in
    let held = c.requires.0 in
    let are = c.new-rows.ensures in
    let found = c.find-at.ensures in
    omega (arith, held.fits, before-end c.args.row held long are found)

pub copy_within-requires-clause-start_le_end : goal.copy_within-requires-clause-start_le_end
copy_within-requires-clause-start_le_end g c =
    let long : length c.args.row ≡ g.row.STRIDE = search rules in
    let held = c.requires.0 in
    let are = c.new-rows.ensures in
    let found = c.find-at.ensures in
    before-end c.args.row held long are found

pub copy_within-requires-clause-dest_in_bounds : goal.copy_within-requires-clause-dest_in_bounds
copy_within-requires-clause-dest_in_bounds g c =
    let long : length c.args.row ≡ g.row.STRIDE = search rules in
    let held = c.requires.0 in
    let are = c.new-rows.ensures in
    let found = c.find-at.ensures in
    omega (arith, held.fits, before-end c.args.row held long are found)

pub put-requires-2 : goal.put-requires-2
put-requires-2 g c =
    let long : length c.args.row ≡ g.row.STRIDE = search rules in
    let held = c.requires.0 in
    let are = c.new-rows.ensures in
    let found = c.find-at.ensures in
    omega (arith, held.fits, before-end c.args.row held long are found, c.copy_within.ensures.len)

pub returns : goal.returns
returns g c =
    let long : length c.args.row ≡ g.row.STRIDE = search rules in
    let held = c.requires.0 in
    let are = c.new-rows.ensures in
    let found = c.find-at.ensures in
    let moved = c.copy_within.ensures.after ∙ moved-up _ _ _ _ (before-end c.args.row held long are found) in
    adds c.args.row held long are found (sym c.if-is_at.false ∙ c.is_at.ensures) (omega (arith, held.fits)) (rw moved at c.put-2.ensures)
