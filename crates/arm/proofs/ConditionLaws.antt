-- The number of a decoded word's condition is its condition field.
use mathlib.Core.Path.{◌≡◌}
use Prim.Native.Nat.{ℕ, ◌/◌, ◌<◌, ◌^◌, zero-le}
use native.Mathlib.Omega.{arith}
use lib.Dec.{eqb, eqb→eq}
use lib.ListN.{get_or}
use Rattle.classes.specs.declared.Cond.TheVariants.{Nv}
use Rattle.classes.specs.Cond.{cond_no, conds}
use Rattle.encodings.proofs.Sweep.{every-at}
use Rattle.arm.specs.Ins.{decode_of}

pub condition-number : (w address : ℕ) → w < 2 ^ 32 → cond_no (decode_of w address).cond ≡ w / 2 ^ 28
unfolding decode_of cond_no
condition-number w address h =
    eqb→eq (cond_no (get_or conds (w / 2 ^ 28) Nv)) (w / 2 ^ 28)
    (every-at 16 0 (λ n. eqb (cond_no (get_or conds n Nv)) n) tt (w / 2 ^ 28) zero-le (omega arith))
