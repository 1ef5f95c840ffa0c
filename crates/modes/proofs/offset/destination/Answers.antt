use Prim.Native.Nat.{ℕ, ◌+◌, ◌*◌, ◌%◌}
use mathlib.Core.Path.{◌∙◌, ap, sym}
use mir.Facts.{to_z-of_z}
use Rattle.modes.specs.Offset.{modulo}
use Rattle.modes.proofs.OffsetLaws.{by_bits, bits-modulo}
use Rattle.modes.proofs.offset.destination.Goals as goal

pub returns : goal.returns
returns c =
    let a = c.args.address in
    let z = c.args.offset in
    let e = c.args.extra in
    let f = c.ranges.offset in
    ap (λ (n : ℕ). (a + 8 + 4 * n + e) % 0x1_0000_0000) (c.pattern.ensures ∙ ap (modulo 0x1_0000_0000) (to_z-of_z f) ∙ sym (bits-modulo z f)) ∙ by_bits a z e f
