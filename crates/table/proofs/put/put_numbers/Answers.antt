-- `put_numbers` meets its contract: each turn puts a number.
use Rattle.text.proofs.Writers.{wrote_none}
use Rattle.table.specs.File.{number, numbers}
use Rattle.table.proofs.Pieces.{wrote_more, room_more, wrote_all}
use Rattle.table.proofs.FileLaws.{numbers-length}
use Rattle.table.proofs.put.put_numbers.Goals as goal

pub loop-value-init : goal.loop-value-init
loop-value-init c = wrote_none _

pub put_number-requires : goal.put_number-requires
put_number-requires c = room_more number _ _ c.loop-value.invariant 0 c.loop-value-test.true (rw (numbers-length c.args.values.now) c.requires)

pub loop-value-preserved : goal.loop-value-preserved
loop-value-preserved c = wrote_more number _ _ c.loop-value.invariant 0 c.loop-value-test.true c.put_number.ensures

pub returns : goal.returns
unfolding numbers
returns c = wrote_all number _ _ c.loop-value.invariant c.loop-value-test.false
