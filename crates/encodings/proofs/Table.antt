-- The manual's classes as tables over the deciding fields, each tested against the diagrams.
use mathlib.Core.Bool.{cond}
use mathlib.Core.Path.{◌≡◌}
use Prim.Native.Nat.{ℕ, ◌+◌, ◌-◌, ◌*◌, ◌/◌, ◌%◌, ◌<◌, ◌≤◌}
use native.Mathlib.Omega.{arith}
use lib.Dec.{leb, eqb}
use Rattle.classes.specs.declared.Class.{Class}
use Rattle.classes.specs.declared.Class.TheVariants.{Adc, Add, And, B, Bic, Bkpt, Bl, Blx1, Blx2, Bx, Cdp, Clz, Cmn, Cmp, Eor, Ldc}
use Rattle.classes.specs.declared.Class.TheVariants.{Ldm, Ldr, Ldrb, Ldrbt, Ldrd, Ldrh, Ldrsb, Ldrsh, Ldrt, Mcr, Mcrr, Mla, Mov, Mrc}
use Rattle.classes.specs.declared.Class.TheVariants.{Mrrc, Mrs, Msr, Mul, Mvn, Orr, Pld, Qadd, Qdadd, Qdsub, Qsub, Rsb, Rsc, Sbc}
use Rattle.classes.specs.declared.Class.TheVariants.{Smlal, Smlalxy, Smlawy, Smlaxy, Smull, Smulwy, Smulxy, Stc, Stm, Str, Strb}
use Rattle.classes.specs.declared.Class.TheVariants.{Strbt, Strd, Strh, Strt, Sub, Swi, Swp, Swpb, Teq, Tst, Umlal, Umull, Illegal}
use Rattle.encodings.specs.Deciding.{encoding_at}
use Rattle.encodings.proofs.Reduce.{reduced, unconditional-yes, unconditional-no}
use Rattle.std.proofs.lemmas.Bool.Decides.{nat_tests}
use Rattle.std.proofs.lemmas.Grind.{and_numeral}
use Rattle.encodings.proofs.Sweep.{agrees, tabled, at_both, anywhere, lows, where-is, shape, load, low_bits}

-- multiplies and swaps
abbrev multiply : ℕ → Class
multiply op =
    cond (leb op 1) Mul (cond (leb op 3) Mla (cond (leb op 7) Illegal (cond (leb op 9) Umull (cond (leb op 11) Umlal
    (cond (leb op 13) Smull (cond (leb op 15) Smlal (cond (eqb op 16) Swp (cond (eqb op 20) Swpb Illegal))))))))

pub multiplies : (op odd : ℕ) → op < 32 → odd < 2 → encoding_at 0 op odd 9 ≡ multiply op
unfolding agrees
multiplies op odd h o = tabled 0 0 32 (where-is low_bits 9 9 anywhere) (λ op odd low. multiply op) tt op odd 9 (omega arith)

-- data processing, by the opcode
abbrev processing : ℕ → Class
processing n =
    cond (eqb n 0) And (cond (eqb n 1) Eor (cond (eqb n 2) Sub (cond (eqb n 3) Rsb (cond (eqb n 4) Add (cond (eqb n 5) Adc
    (cond (eqb n 6) Sbc (cond (eqb n 7) Rsc (cond (eqb n 8) Tst (cond (eqb n 9) Teq (cond (eqb n 10) Cmp (cond (eqb n 11) Cmn
    (cond (eqb n 12) Orr (cond (eqb n 13) Mov (cond (eqb n 14) Bic Mvn))))))))))))))

-- 0 for a compare without S
abbrev sets : ℕ → ℕ → ℕ → ℕ
sets op odd low = op % 2 + (op / 8 % 4 - 2) + (2 - op / 8 % 4)

-- with a register, bits 7 and 4 are not both one
abbrev both : ℕ → ℕ → ℕ → ℕ
both op odd low = low / 8 + low % 2 - op / 32

pub processes : (op odd low : ℕ) → op < 64 → (op / 8 % 4 ≡ 2 → op % 2 ≡ 1) → odd < 2 → low < 16 → low / 8 + low % 2 < op / 32 + 2 → encoding_at 0 op odd low ≡ processing (op / 2 % 16)
unfolding agrees
processes op odd low h s o l b =
    let set : 0 < sets op odd low = grind arith in
    tabled 0 0 64 (where-is sets 1 3 (where-is both 0 1 anywhere)) (λ op odd low. processing (op / 2 % 16)) tt op odd low (omega arith)

-- the compares without S: with a register, and with an immediate
abbrev control : ℕ → ℕ → Class
control op low =
    cond (leb 8 low)
    (cond (eqb op 16) Smlaxy (cond (eqb op 18) (cond (eqb (low / 2 % 2) 0) Smlawy Smulwy) (cond (eqb op 20) Smlalxy Smulxy)))
    (cond (eqb low 0) (cond (eqb (op / 2 % 2) 0) Mrs Msr)
    (cond (eqb low 1) (cond (eqb op 18) Bx (cond (eqb op 22) Clz Illegal))
    (cond (eqb low 3) (cond (eqb op 18) Blx2 Illegal)
    (cond (eqb low 5) (cond (eqb op 16) Qadd (cond (eqb op 18) Qsub (cond (eqb op 20) Qdadd Qdsub)))
    (cond (eqb low 7) (cond (eqb op 18) Bkpt Illegal) Illegal)))))

pub controls : (op odd low : ℕ) → 16 ≤ op → op < 24 → op % 2 ≡ 0 → odd < 2 → low < 16 → low / 8 + low % 2 < 2 → encoding_at 0 op odd low ≡ control op low
unfolding agrees
controls op odd low a h e o l b = tabled 0 16 8 (where-is load 0 0 (lows 0 15)) (λ op odd low. control op low) tt op odd low (omega arith)

pub control-immediate : (op odd low : ℕ) → 48 ≤ op → op < 56 → op % 2 ≡ 0 → odd < 2 → low < 16 → encoding_at 0 op odd low ≡ cond (eqb (op / 2 % 2) 1) Msr Illegal
unfolding agrees
control-immediate op odd low a h e o l = tabled 0 48 8 (where-is load 0 0 anywhere) (λ op odd low. cond (eqb (op / 2 % 2) 1) Msr Illegal) tt op odd low (omega arith)

-- halfwords, signed bytes and doublewords
abbrev extra : ℕ → ℕ → ℕ → Class
extra op odd low =
    cond (eqb low 11) (cond (eqb (op % 2) 0) Strh Ldrh)
    (cond (eqb (op % 2) 1) (cond (eqb low 13) Ldrsb Ldrsh) (cond (eqb odd 0) (cond (eqb low 13) Ldrd Strd) Illegal))

pub extras : (op odd low : ℕ) → op < 32 → odd < 2 → 11 ≤ low → low < 16 → low % 2 ≡ 1 → encoding_at 0 op odd low ≡ extra op odd low
unfolding agrees
extras op odd low h o a l b = tabled 0 0 32 (where-is low_bits 11 15 (where-is (λ op odd low. low % 2) 1 1 anywhere)) extra tt op odd low (omega arith)

-- words and bytes
abbrev single : ℕ → Class
single op =
    cond (eqb (op / 16 % 2 * 4 + op % 4) 2) (cond (eqb (op / 4 % 2) 0) Strt Strbt)
    (cond (eqb (op / 16 % 2 * 4 + op % 4) 3) (cond (eqb (op / 4 % 2) 0) Ldrt Ldrbt)
    (cond (eqb (op % 2) 0) (cond (eqb (op / 4 % 2) 0) Str Strb) (cond (eqb (op / 4 % 2) 0) Ldr Ldrb)))

pub singles : (op odd low : ℕ) → 64 ≤ op → op < 128 → odd < 2 → low < 16 → op / 32 + low % 2 < 4 → encoding_at 0 op odd low ≡ single op
unfolding agrees
singles op odd low a h o l s = tabled 0 64 64 (where-is shape 0 3 anywhere) (λ op odd low. single op) tt op odd low (omega arith)

-- the coprocessors' instructions, the same under every condition
abbrev transfer : ℕ → Class
transfer op = cond (eqb (op % 2) 0) Stc Ldc

-- not two registers at once
abbrev apart : ℕ → ℕ → ℕ → ℕ
apart op odd low = (op / 2 - 98) + (98 - op / 2)

pub transfers : (nv op odd low : ℕ) → nv < 2 → 194 ≤ op → op < 224 → 0 < apart op odd low → odd < 2 → low < 16 → encoding_at nv op odd low ≡ transfer op
unfolding agrees
transfers nv op odd low v a h n o l =
    at_both 194 30 (where-is apart 1 98 anywhere) (λ op odd low. transfer op) tt tt nv op odd low v (omega arith)

abbrev operation : ℕ → ℕ → Class
operation op low = cond (eqb (low % 2) 0) Cdp (cond (eqb (op % 2) 0) Mcr Mrc)

pub operations : (nv op odd low : ℕ) → nv < 2 → 224 ≤ op → op < 240 → odd < 2 → low < 16 → encoding_at nv op odd low ≡ operation op low
unfolding agrees
operations nv op odd low v a h o l = at_both 224 16 anywhere (λ op odd low. operation op low) tt tt nv op odd low v (omega arith)

-- what is left under a condition: block transfers, branches, the coprocessors, SWI
abbrev other : ℕ → ℕ → Class
other op low =
    cond (leb op 127) Illegal (cond (leb op 159) (cond (eqb (op % 2) 0) Stm Ldm) (cond (leb op 175) B (cond (leb op 191) Bl
    (cond (leb op 193) Illegal (cond (eqb op 196) Mcrr (cond (eqb op 197) Mrrc (cond (leb op 223) (transfer op)
    (cond (leb op 239) (operation op low) Swi))))))))

pub others : (op odd low : ℕ) → 96 ≤ op → op < 256 → odd < 2 → low < 16 → 4 ≤ op / 32 + low % 2 → encoding_at 0 op odd low ≡ other op low
unfolding agrees
others op odd low a h o l s = tabled 0 96 160 (where-is shape 4 8 anywhere) (λ op odd low. other op low) tt op odd low (omega arith)

-- condition 1111
abbrev last : ℕ → ℕ → Class
last op low =
    cond (leb op 63) Illegal (cond (leb op 127) (cond (eqb (op / 32 + low % 2) 4) Illegal (cond (eqb (op % 8) 5) Pld (cond (eqb (op % 8) 7) Pld Illegal)))
    (cond (leb op 159) Illegal (cond (leb op 191) Blx1 (cond (leb op 193) Illegal (cond (eqb (op / 2) 98) Illegal (cond (leb op 223) (transfer op)
    (cond (leb op 239) (operation op low) Illegal)))))))

pub lasts : (op odd low : ℕ) → op < 256 → odd < 2 → low < 16 → encoding_at 1 op odd low ≡ last op low
unfolding agrees
lasts op odd low h o l = tabled 1 0 256 anywhere (λ op odd low. last op low) tt op odd low (omega arith)

-- how a word's fields tell its encoding
pub ruleset fields = (reduced, unconditional-yes, unconditional-no, and_numeral)

-- an immediate's compares without S
pub ruleset immediately = (control-immediate, nat_tests)
