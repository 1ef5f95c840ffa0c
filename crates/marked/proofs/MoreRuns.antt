-- Runs of what the marked ones leave out. Each has base and module start 0x02000000.
-- Assumes nothing.
use Rattle.base.proofs.Prelude.{◌∙◌, refl, ◌≡◌, false, List, [], ◌∷◌, map}
use Rattle.context.specs.Blocks.{other, arm, thumb}
use Rattle.base.specs.declared.refusal.Refusal.TheVariants.{ListFull}
use Rattle.walk.specs.declared.Answer.TheVariants.{Refused}
use Rattle.walk.specs.declared.Counts.{Counts}
use Rattle.std.specs.Prelude.{None}
use Rattle.marked.proofs.Computing.{calls, spelled_in}
use Rattle.marked.specs.Marked.{Marked, row, saving, accepted, places, four_rows, given_in, expected_in, given, expected}

-- 13 as document 01 has it: C8 with no label place, refused at its first branch
abbrev full_labels : Marked
full_labels =
    row (0xE350_0002 ∷ 0x908F_F100 ∷ 0xEA00_0002 ∷ 0xEA00_0001 ∷ 0xEA00_0000 ∷ 0xEAFF_FFFF ∷ 0xE12F_FF1E ∷ [])
    0x0200_0000 0x0200_001C None false (Refused ListFull 0x0200_0008 0)
    [] [] [] [] []

abbrev no_labels : Counts
no_labels = places 0 14 9 8 19

full-computed : given_in no_labels full_labels ≡ spelled_in no_labels full_labels
unfolding calls
full-computed = refl

full-spelled : spelled_in no_labels full_labels ≡ expected_in no_labels full_labels
unfolding calls
full-spelled = refl

pub full : given_in no_labels full_labels ≡ expected_in no_labels full_labels
full = full-computed ∙ full-spelled

abbrev more : List Marked
more =
    -- an inline table, of which 08 and 0C are the last eight bytes: sub r0, pc, #0x1F8; ldrb r1, [r0, r2, lsr #1]
    row (0xE24F_0F7E ∷ 0xE7D0_10A2 ∷ 0xE7F0_00F0 ∷ 0xE7F0_00F0 ∷ 0xE12F_FF1E ∷ [])
    0x0200_0000 0x0200_0014 None false (accepted 0x0200_0014 0x0200_0014)
    [] [] [] ((0x01FF_FF10 ∷ 0x100 ∷ []) ∷ []) []
    -- a call, and a branch back before a pool, with a label past it: bl; beq 14; b 00
    ∷ row (0xE59F_0008 ∷ 0xEB00_003D ∷ 0x0A00_0001 ∷ 0xEAFF_FFFB ∷ 0x1234_5678 ∷ 0xE12F_FF1E ∷ [])
    0x0200_0000 0x0200_0018 None false (accepted 0x0200_0018 0x0200_0018)
    ((0x0200_0000 ∷ []) ∷ (0x0200_0014 ∷ []) ∷ []) ((0x0200_0010 ∷ 0x1234_5678 ∷ other ∷ []) ∷ [])
    [] [] ((0x0200_0004 ∷ 0xEB00_003D ∷ 0x0200_0100 ∷ arm ∷ []) ∷ [])
    -- the same in a jump table, with no label past the pool
    ∷ row (0xE59F_100C ∷ 0xE350_0001 ∷ 0x908F_F100 ∷ 0xE1A0_0000 ∷ 0xEAFF_FFFA ∷ 0x1234_5678 ∷ 0xE12F_FF1E ∷ [])
    0x0200_0000 0x0200_001C None false (accepted 0x0200_001C 0x0200_001C)
    ((0x0200_0000 ∷ []) ∷ []) ((0x0200_0014 ∷ 0x1234_5678 ∷ other ∷ []) ∷ []) ((0x0200_0010 ∷ 8 ∷ []) ∷ []) [] []
    -- a return before the destination of a long branch
    ∷ row (0xE59F_1008 ∷ 0xEB00_0000 ∷ 0xE12F_FF1E ∷ 0xE12F_FF1E ∷ 0x1234_5678 ∷ [])
    0x0200_0000 0x0200_0014 None false (accepted 0x0200_0014 0x0200_0010)
    [] ((0x0200_0010 ∷ 0x1234_5678 ∷ other ∷ []) ∷ []) [] [] ((0x0200_0004 ∷ 0xEB00_0000 ∷ 0x0200_000C ∷ arm ∷ []) ∷ [])
    -- a pool word that is passed over, beq as an instruction, and then a push of lr
    ∷ row (0xE51F_0004 ∷ 0x0A00_0000 ∷ 0xE92D_4000 ∷ [])
    0x0200_0000 0x0200_000C None false (accepted 0x0200_0008 0x0200_0008)
    [] ((0x0200_0004 ∷ 0x0A00_0000 ∷ other ∷ []) ∷ []) [] [] []
    -- a push of four registers with lr, which a later push of lr does not change: push {r4, r5, r6, lr}; beq 0C; pop {r4, r5, r6, pc}; push {lr}
    ∷ row (0xE92D_4070 ∷ 0x0A00_0000 ∷ 0xE8BD_8070 ∷ 0xE92D_4000 ∷ 0xE8BD_8000 ∷ [])
    0x0200_0000 0x0200_0014 None false (saving 4 0x0200_0014 0x0200_0014)
    ((0x0200_000C ∷ []) ∷ []) [] [] [] []
    -- blx, and a tail call below the start
    ∷ row (0xFB00_003E ∷ 0xEAFF_FFFA ∷ [])
    0x0200_0000 0x0200_0008 None false (accepted 0x0200_0008 0x0200_0008)
    [] [] [] [] ((0x0200_0000 ∷ 0xFB00_003E ∷ 0x0200_0102 ∷ thumb ∷ []) ∷ (0x0200_0004 ∷ 0xEAFF_FFFA ∷ 0x01FF_FFF4 ∷ arm ∷ []) ∷ [])
    ∷ []

computed : map given more ≡ map (spelled_in four_rows) more
unfolding calls
computed = refl

spelled : map (spelled_in four_rows) more ≡ map expected more
unfolding calls
spelled = refl

pub more-runs : map given more ≡ map expected more
more-runs = computed ∙ spelled
