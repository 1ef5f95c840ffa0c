use Prim.Native.Nat.{◌/◌, ◌%◌}
use mathlib.Core.Path.{◌∙◌, sym}
use native.Mathlib.Omega.{arith}
use Rattle.std.proofs.lemmas.Nat.{and_mask}
use Rattle.encodings.proofs.Reduce.{reduced, unconditional-yes}
use Rattle.encodings.proofs.encoding.encoding.Goals as goal

-- no field is decisive under condition 1111 but those that are passed
pub returns-then-word-eq15 : goal.returns-then-word-eq15
returns-then-word-eq15 c =
    let w = c.args.word in
    c.unconditional.ensures (w / 4096 % 2) (omega arith)
    ∙ rw (and_mask (w / 1048576) 8, and_mask (w / 16) 4, ← unconditional-yes w c.if-word-eq15.true) (sym (reduced w))
