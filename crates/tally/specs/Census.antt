-- The census: the counts of each class, in document 01's order.
-- Assumes nothing.
use Rattle.std.specs.Prelude.{ℕ, ◌+◌, ◌≡◌, get_or, List, [], ◌∷◌}
use Rattle.classes.specs.declared.Class.{Class}
use Rattle.classes.specs.declared.Class.TheVariants.{Adc, Add, And, B, Bic, Bkpt, Bl, Blx1, Blx2, Bx, Cdp, Clz, Cmn, Cmp, Eor}
use Rattle.classes.specs.declared.Class.TheVariants.{Ldc, Ldm, Ldr, Ldrb, Ldrbt, Ldrd, Ldrh, Ldrsb, Ldrsh, Ldrt, Mcr, Mcrr, Mla, Mov, Mrc}
use Rattle.classes.specs.declared.Class.TheVariants.{Mrrc, Mrs, Msr, Mul, Mvn, Orr, Pld, Qadd, Qdadd, Qdsub, Qsub, Rsb, Rsc, Sbc, Smlal}
use Rattle.classes.specs.declared.Class.TheVariants.{Smlalxy, Smlawy, Smlaxy, Smull, Smulwy, Smulxy, Stc, Stm, Str, Strb, Strbt, Strd, Strh, Strt, Sub}
use Rattle.classes.specs.declared.Class.TheVariants.{Swi, Swp, Swpb, Teq, Tst, Umlal, Umull, Push, Pop, Lsl, Lsr, Asr, Ror, Illegal}
use Rattle.classes.specs.Class.{class_no}
use Rattle.tally.specs.Counting.{unconditional_words, conditional_words}

-- a class, and its words under the conditions 1110 and 1111 and under the others
pub record Entry : Type 0 where
  pub class : Class
  pub unconditional : ℕ
  pub conditional : ℕ

abbrev pub entry : Class → ℕ → ℕ → Entry
entry k u c = record { class = k; unconditional = u; conditional = c }

unfoldable pub census : List Entry
census =
    entry Adc 3_670_016 51_380_224
    ∷ entry Add 3_670_016 51_380_224
    ∷ entry And 3_670_016 51_380_224
    ∷ entry B 16_777_216 234_881_024
    ∷ entry Bic 3_670_016 51_380_224
    ∷ entry Bkpt 65_536 917_504
    ∷ entry Bl 16_777_216 234_881_024
    ∷ entry Blx1 33_554_432 0
    ∷ entry Blx2 65_536 917_504
    ∷ entry Bx 65_536 917_504
    ∷ entry Cdp 16_777_216 117_440_512
    ∷ entry Clz 65_536 917_504
    ∷ entry Cmn 1_835_008 25_690_112
    ∷ entry Cmp 1_835_008 25_690_112
    ∷ entry Eor 3_670_016 51_380_224
    ∷ entry Ldc 29_360_128 205_520_896
    ∷ entry Ldm 16_711_680 233_963_520
    ∷ entry Ldr 9_437_168 132_120_352
    ∷ entry Ldrb 9_437_184 132_120_576
    ∷ entry Ldrbt 3_145_728 44_040_192
    ∷ entry Ldrd 524_288 7_340_032
    ∷ entry Ldrh 1_048_576 14_680_064
    ∷ entry Ldrsb 1_048_576 14_680_064
    ∷ entry Ldrsh 1_048_576 14_680_064
    ∷ entry Ldrt 3_145_728 44_040_192
    ∷ entry Mcr 8_388_608 58_720_256
    ∷ entry Mcrr 1_048_576 14_680_064
    ∷ entry Mla 131_072 1_835_008
    ∷ entry Mov 2_113_536 29_589_504
    ∷ entry Mrc 8_388_608 58_720_256
    ∷ entry Mrrc 1_048_576 14_680_064
    ∷ entry Mrs 131_072 1_835_008
    ∷ entry Msr 2_228_224 31_195_136
    ∷ entry Mul 131_072 1_835_008
    ∷ entry Mvn 3_670_016 51_380_224
    ∷ entry Orr 3_670_016 51_380_224
    ∷ entry Pld 12_582_912 0
    ∷ entry Qadd 65_536 917_504
    ∷ entry Qdadd 65_536 917_504
    ∷ entry Qdsub 65_536 917_504
    ∷ entry Qsub 65_536 917_504
    ∷ entry Rsb 3_670_016 51_380_224
    ∷ entry Rsc 3_670_016 51_380_224
    ∷ entry Sbc 3_670_016 51_380_224
    ∷ entry Smlal 131_072 1_835_008
    ∷ entry Smlalxy 262_144 3_670_016
    ∷ entry Smlawy 131_072 1_835_008
    ∷ entry Smlaxy 262_144 3_670_016
    ∷ entry Smull 131_072 1_835_008
    ∷ entry Smulwy 131_072 1_835_008
    ∷ entry Smulxy 262_144 3_670_016
    ∷ entry Stc 29_360_128 205_520_896
    ∷ entry Stm 16_711_680 233_963_520
    ∷ entry Str 9_437_168 132_120_352
    ∷ entry Strb 9_437_184 132_120_576
    ∷ entry Strbt 3_145_728 44_040_192
    ∷ entry Strd 524_288 7_340_032
    ∷ entry Strh 1_048_576 14_680_064
    ∷ entry Strt 3_145_728 44_040_192
    ∷ entry Sub 3_670_016 51_380_224
    ∷ entry Swi 16_777_216 234_881_024
    ∷ entry Swp 65_536 917_504
    ∷ entry Swpb 65_536 917_504
    ∷ entry Teq 1_835_008 25_690_112
    ∷ entry Tst 1_835_008 25_690_112
    ∷ entry Umlal 131_072 1_835_008
    ∷ entry Umull 131_072 1_835_008
    ∷ entry Push 65_552 917_728
    ∷ entry Pop 65_552 917_728
    ∷ entry Lsl 385_024 5_390_336
    ∷ entry Lsr 393_216 5_505_024
    ∷ entry Asr 393_216 5_505_024
    ∷ entry Ror 385_024 5_390_336
    ∷ entry Illegal 200_671_232 343_146_496
    ∷ []

-- the entry of a class
abbrev pub entry_of : Class → Entry
entry_of k = get_or census (class_no k) (entry Illegal 0 0)

-- an entry has a class's counts
pub record Counted (k : Class) (e : Entry) : Type 0 where
  pub named : e.class ≡ k
  pub unconditionals : e.unconditional ≡ unconditional_words k
  pub conditionals : e.conditional ≡ conditional_words k

-- every word of every class
unfoldable pub total : List Entry → ℕ
total [] = 0
total (e ∷ es) = e.unconditional + e.conditional + total es
