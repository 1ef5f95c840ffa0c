-- `text::decimal_len` meets its contract.
use Rattle.base.proofs.Prelude.{sym}
use Rattle.text.proofs.Decimal.{decimal_long}
use Rattle.text.proofs.decimal_len.Goals as goal

pub returns : goal.returns
returns c =
    let log = c.ilog10.ensures in
    sym (decimal_long _ c.args.value (rw (← c.max.ensures) log.power_le) (rw (← c.max.ensures) log.next_power_gt) log.bound)
