-- `put_flags` meets its contract: each turn puts a byte.
use Rattle.base.proofs.Prelude.{◌∷◌, [], get_or}
use Rattle.text.proofs.Writers.{wrote_none}
use Rattle.std.proofs.lemmas.List.Concat.{flat_map_single}
use Rattle.std.proofs.lemmas.List.{length-map}
use Rattle.table.specs.Held.{flag}
use Rattle.table.proofs.Pieces.{wrote_more, room_more, wrote_all}
use Rattle.table.proofs.FileLaws.{flag_byte}
use Rattle.table.proofs.put.put_flags.Goals as goal

pub loop-value-init : goal.loop-value-init
loop-value-init c = wrote_none _

pub put_byte-requires : goal.put_byte-requires
put_byte-requires c =
    room_more (λ n. flag n ∷ []) _ _ c.loop-value.invariant 0 c.loop-value-test.true
    (rw (flat_map_single flag c.args.values.now, length-map) c.requires)

pub loop-value-preserved : goal.loop-value-preserved
loop-value-preserved c =
    wrote_more (λ n. flag n ∷ []) _ _ c.loop-value.invariant 0 c.loop-value-test.true (rw (flag_byte (get_or c.args.values.now c.loop-value.value-index 0)) c.put_byte.ensures)

pub returns : goal.returns
returns c = rw (flat_map_single flag c.args.values.now) at (wrote_all (λ n. flag n ∷ []) _ _ c.loop-value.invariant c.loop-value-test.false)
