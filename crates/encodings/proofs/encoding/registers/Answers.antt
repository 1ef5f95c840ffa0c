use Prim.Native.Nat.{◌+◌, ◌/◌, ◌%◌, ◌<◌}
use native.Mathlib.Omega.{arith}
use Rattle.encodings.proofs.encoding.registers.Goals as goal

pub returns-in_default : goal.returns-in_default
returns-in_default c =
    let low = c.args.low in
    let apart : low / 8 + low % 2 < 2 = grind arith in
    c.data_processing.ensures c.args.odd low (omega arith) (omega arith) (omega arith)
