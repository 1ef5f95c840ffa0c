-- `put_heading` meets its contract: the numbers before the saved registers, and those behind them.
use Rattle.base.proofs.Prelude.{◌≡◌, length, take, drop, arith, rules, length-drop, length-take-le}
use Rattle.text.proofs.Writers.{wrote_then}
use Rattle.table.specs.Held.{function_row, saved_registers_at, labels_at}
use Rattle.table.proofs.FileLaws.{heading-numbers, numbers_long}
use Rattle.table.proofs.put.put_heading.Goals as goal

pub put_numbers-requires-2 : goal.put_numbers-requires-2
put_numbers-requires-2 c =
    let row = c.args.row.now in
    let ten : length row ≡ function_row = search rules in
    let front : length (take saved_registers_at row) ≡ 4 = length-take-le _ _ (omega (arith, ten)) in
    let back : length (take 5 (drop labels_at row)) ≡ 5 = length-take-le _ _ (rw length-drop (omega (arith, ten))) in
    omega (arith, c.requires, c.put_numbers.ensures.text.next, c.put_numbers.ensures.long, numbers_long (take saved_registers_at row), front, back)

pub returns : goal.returns
returns c = rw (heading-numbers c.args.row.now (search rules)) (wrote_then c.put_numbers.ensures c.put_numbers-2.ensures)
