-- The manual's ARM instructions (ARM DDI 0100E: chapter A4.1, and A10 for the enhanced DSP extension), page by page in its order.
-- Each diagram stands for bits 27 to 0, with a letter for each bit of a field: n, d, s and m are registers, h and w the registers of the
-- high and the low word of a result, i an immediate, r its rotation, a a shift amount, k a shift kind, t a register list, c a
-- coprocessor, p and q its opcodes, f a field mask, x and y the choice of a halfword; a capital letter is the manual's own.
-- Bits that should be one are +, bits that should be zero -. A word that breaks this is UNPREDICTABLE and is read by its fields, so
-- + and - are as free as a letter.
--
-- Where a column differs from the printed bit, it is by judgement:
--   BKPT              the condition, printed 1110, is free but for 1111: the page calls any other UNPREDICTABLE.
--   LDM (2), STM (2)  bit 21, printed 0, is W: the pages call W = 1 UNPREDICTABLE. Bit 15, printed 0 in LDM (2) and 1 in LDM (3), belongs to
--                     the list: both are LDM.
--   PLD               bits 24 and 21, printed 1 and 0, are P and W. They are decode bits, whose other values would be UNDEFINED by the general
--                     rule (A3), but the page itself calls just P = 0 and W = 1 UNPREDICTABLE.
--   MRS, MSR          bits 7 to 4, which should be zero, are fixed (in MSR's register form): they are the decode bits that tell these two from the
--                     control extension space's other instructions.
-- Assumes nothing.
use Prim.Native.String.{String, ◌++◌}
use Rattle.std.specs.Prelude.{List, [], ◌∷◌, ℕ}
use mathlib.Core.List as List
use Rattle.classes.specs.declared.Class.{Class}
use Rattle.classes.specs.declared.Class.TheVariants.{Adc, Add, And, B, Bic, Bkpt, Bl, Blx1, Blx2, Bx, Cdp, Clz, Cmn, Cmp, Eor, Ldc}
use Rattle.classes.specs.declared.Class.TheVariants.{Ldm, Ldr, Ldrb, Ldrbt, Ldrd, Ldrh, Ldrsb, Ldrsh, Ldrt, Mcr, Mcrr, Mla, Mov, Mrc}
use Rattle.classes.specs.declared.Class.TheVariants.{Mrrc, Mrs, Msr, Mul, Mvn, Orr, Pld, Qadd, Qdadd, Qdsub, Qsub, Rsb, Rsc, Sbc}
use Rattle.classes.specs.declared.Class.TheVariants.{Smlal, Smlalxy, Smlawy, Smlaxy, Smull, Smulwy, Smulxy, Stc, Stm, Str, Strb}
use Rattle.classes.specs.declared.Class.TheVariants.{Strbt, Strd, Strh, Strt, Sub, Swi, Swp, Swpb, Teq, Tst, Umlal, Umull, Illegal}
use Rattle.encodings.specs.Diagram.{Encoding, cond, uncond, fitting, first_or, view}

-- A5.1, addressing mode 1: an immediate; a register shifted by an immediate; a register shifted by a register. The text has the
-- opcode, S, Rn and Rd.
mode1 : Class → String → List Encoding
mode1 k opcode =
    cond k ("001" ++ opcode ++ "rrrr iiiiiiii")
    ∷ cond k ("000" ++ opcode ++ "aaaa a kk 0 mmmm")
    ∷ cond k ("000" ++ opcode ++ "ssss 0 kk 1 mmmm")
    ∷ []

-- A5.2, addressing mode 2: an immediate or a shifted register, each as an offset or pre-indexed (P = 1) and post-indexed
-- (P = 0, W = 0; with W = 1 the page is that of the T form).
mode2 : Class → String → String → List Encoding
mode2 k b l =
    cond k ("010 1 U" ++ b ++ "W" ++ l ++ "nnnn dddd iiiiiiiiiiii")
    ∷ cond k ("010 0 U" ++ b ++ "0" ++ l ++ "nnnn dddd iiiiiiiiiiii")
    ∷ cond k ("011 1 U" ++ b ++ "W" ++ l ++ "nnnn dddd aaaa a kk 0 mmmm")
    ∷ cond k ("011 0 U" ++ b ++ "0" ++ l ++ "nnnn dddd aaaa a kk 0 mmmm")
    ∷ []

-- The T forms (LDRT, LDRBT, STRT, STRBT): post-indexed with W = 1.
mode2_t : Class → String → String → List Encoding
mode2_t k b l =
    cond k ("010 0 U" ++ b ++ "1" ++ l ++ "nnnn dddd iiiiiiiiiiii")
    ∷ cond k ("011 0 U" ++ b ++ "1" ++ l ++ "nnnn dddd aaaa a kk 0 mmmm")
    ∷ []

-- A5.3, addressing mode 3: an immediate in two halves, or a register. P = 0 with W = 1 is UNPREDICTABLE.
mode3 : Class → String → String → List Encoding
mode3 k l sh =
    cond k ("000 P U 1 W" ++ l ++ "nnnn dddd iiii 1" ++ sh ++ "1 iiii")
    ∷ cond k ("000 P U 0 W" ++ l ++ "nnnn dddd ---- 1" ++ sh ++ "1 mmmm")
    ∷ []

-- A5.5, addressing mode 5: an offset or pre-indexed; post-indexed; unindexed, which has U = 1 only.
mode5 : (Class → String → Encoding) → Class → String → List Encoding
mode5 space k l =
    space k ("110 1 U N W" ++ l ++ "nnnn dddd cccc iiiiiiii")
    ∷ space k ("110 0 U N 1" ++ l ++ "nnnn dddd cccc iiiiiiii")
    ∷ space k ("110 0 1 N 0" ++ l ++ "nnnn dddd cccc iiiiiiii")
    ∷ []

page : Encoding → List Encoding
page e = e ∷ []

pages : List (List Encoding)
unfolding mode1 mode2 mode2_t mode3 mode5 page
pages =
    -- ADC, ADD, AND
    mode1 Adc "0101 S nnnn dddd"
    ∷ mode1 Add "0100 S nnnn dddd"
    ∷ mode1 And "0000 S nnnn dddd"
    -- B, BL
    ∷ page (cond B "1010 iiiiiiiiiiiiiiiiiiiiiiii")
    ∷ page (cond Bl "1011 iiiiiiiiiiiiiiiiiiiiiiii")
    -- BIC
    ∷ mode1 Bic "1110 S nnnn dddd"
    -- BKPT
    ∷ page (cond Bkpt "0001 0010 iiiiiiiiiiii 0111 iiii")
    -- BLX (1), BLX (2), BX
    ∷ page (uncond Blx1 "101 H iiiiiiiiiiiiiiiiiiiiiiii")
    ∷ page (cond Blx2 "0001 0010 ++++ ++++ ++++ 0011 mmmm")
    ∷ page (cond Bx "0001 0010 ++++ ++++ ++++ 0001 mmmm")
    -- CDP, CDP2
    ∷ page (cond Cdp "1110 pppp nnnn dddd cccc qqq 0 mmmm")
    ∷ page (uncond Cdp "1110 pppp nnnn dddd cccc qqq 0 mmmm")
    -- CLZ
    ∷ page (cond Clz "0001 0110 ++++ dddd ++++ 0001 mmmm")
    -- CMN, CMP, EOR
    ∷ mode1 Cmn "1011 1 nnnn ----"
    ∷ mode1 Cmp "1010 1 nnnn ----"
    ∷ mode1 Eor "0001 S nnnn dddd"
    -- LDC, LDC2
    ∷ mode5 cond Ldc "1"
    ∷ mode5 uncond Ldc "1"
    -- LDM (1); LDM (2) and LDM (3)
    ∷ page (cond Ldm "100 P U 0 W 1 nnnn tttttttttttttttt")
    ∷ page (cond Ldm "100 P U 1 W 1 nnnn tttttttttttttttt")
    -- LDR, LDRB, LDRBT
    ∷ mode2 Ldr "0" "1"
    ∷ mode2 Ldrb "1" "1"
    ∷ mode2_t Ldrbt "1" "1"
    -- LDRD (A10), LDRH, LDRSB, LDRSH
    ∷ mode3 Ldrd "0" "10"
    ∷ mode3 Ldrh "1" "01"
    ∷ mode3 Ldrsb "1" "10"
    ∷ mode3 Ldrsh "1" "11"
    -- LDRT
    ∷ mode2_t Ldrt "0" "1"
    -- MCR, MCR2
    ∷ page (cond Mcr "1110 ppp 0 nnnn dddd cccc qqq 1 mmmm")
    ∷ page (uncond Mcr "1110 ppp 0 nnnn dddd cccc qqq 1 mmmm")
    -- MCRR (A10)
    ∷ page (cond Mcrr "1100 0100 nnnn dddd cccc pppp mmmm")
    -- MLA
    ∷ page (cond Mla "0000 001 S dddd nnnn ssss 1001 mmmm")
    -- MOV
    ∷ mode1 Mov "1101 S ---- dddd"
    -- MRC, MRC2
    ∷ page (cond Mrc "1110 ppp 1 nnnn dddd cccc qqq 1 mmmm")
    ∷ page (uncond Mrc "1110 ppp 1 nnnn dddd cccc qqq 1 mmmm")
    -- MRRC (A10)
    ∷ page (cond Mrrc "1100 0101 nnnn dddd cccc pppp mmmm")
    -- MRS
    ∷ page (cond Mrs "0001 0 R 00 ++++ dddd ---- 0000 ----")
    -- MSR with an immediate, and with a register
    ∷ page (cond Msr "0011 0 R 10 ffff ++++ rrrr iiiiiiii")
    ∷ page (cond Msr "0001 0 R 10 ffff ++++ ---- 0000 mmmm")
    -- MUL
    ∷ page (cond Mul "0000 000 S dddd ---- ssss 1001 mmmm")
    -- MVN, ORR
    ∷ mode1 Mvn "1111 S ---- dddd"
    ∷ mode1 Orr "1100 S nnnn dddd"
    -- PLD (A10)
    ∷ page (uncond Pld "010 P U 1 W 1 nnnn ++++ iiiiiiiiiiii")
    ∷ page (uncond Pld "011 P U 1 W 1 nnnn ++++ aaaa a kk 0 mmmm")
    -- QADD, QDADD, QDSUB, QSUB (A10)
    ∷ page (cond Qadd "0001 0000 nnnn dddd ---- 0101 mmmm")
    ∷ page (cond Qdadd "0001 0100 nnnn dddd ---- 0101 mmmm")
    ∷ page (cond Qdsub "0001 0110 nnnn dddd ---- 0101 mmmm")
    ∷ page (cond Qsub "0001 0010 nnnn dddd ---- 0101 mmmm")
    -- RSB, RSC, SBC
    ∷ mode1 Rsb "0011 S nnnn dddd"
    ∷ mode1 Rsc "0111 S nnnn dddd"
    ∷ mode1 Sbc "0110 S nnnn dddd"
    -- SMLAL
    ∷ page (cond Smlal "0000 111 S hhhh wwww ssss 1001 mmmm")
    -- SMLAL<x><y>, SMLAW<y>, SMLA<x><y> (A10)
    ∷ page (cond Smlalxy "0001 0100 hhhh wwww ssss 1yx0 mmmm")
    ∷ page (cond Smlawy "0001 0010 dddd nnnn ssss 1y00 mmmm")
    ∷ page (cond Smlaxy "0001 0000 dddd nnnn ssss 1yx0 mmmm")
    -- SMULL
    ∷ page (cond Smull "0000 110 S hhhh wwww ssss 1001 mmmm")
    -- SMULW<y>, SMUL<x><y> (A10)
    ∷ page (cond Smulwy "0001 0010 dddd ---- ssss 1y10 mmmm")
    ∷ page (cond Smulxy "0001 0110 dddd ---- ssss 1yx0 mmmm")
    -- STC, STC2
    ∷ mode5 cond Stc "0"
    ∷ mode5 uncond Stc "0"
    -- STM (1); STM (2)
    ∷ page (cond Stm "100 P U 0 W 0 nnnn tttttttttttttttt")
    ∷ page (cond Stm "100 P U 1 W 0 nnnn tttttttttttttttt")
    -- STR, STRB, STRBT
    ∷ mode2 Str "0" "0"
    ∷ mode2 Strb "1" "0"
    ∷ mode2_t Strbt "1" "0"
    -- STRD (A10), STRH, STRT
    ∷ mode3 Strd "0" "11"
    ∷ mode3 Strh "0" "01"
    ∷ mode2_t Strt "0" "0"
    -- SUB
    ∷ mode1 Sub "0010 S nnnn dddd"
    -- SWI
    ∷ page (cond Swi "1111 iiiiiiiiiiiiiiiiiiiiiiii")
    -- SWP, SWPB
    ∷ page (cond Swp "0001 0000 nnnn dddd ---- 1001 mmmm")
    ∷ page (cond Swpb "0001 0100 nnnn dddd ---- 1001 mmmm")
    -- TEQ, TST
    ∷ mode1 Teq "1001 1 nnnn ----"
    ∷ mode1 Tst "1000 1 nnnn ----"
    -- UMLAL, UMULL
    ∷ page (cond Umlal "0000 101 S hhhh wwww ssss 1001 mmmm")
    ∷ page (cond Umull "0000 100 S hhhh wwww ssss 1001 mmmm")
    ∷ []

-- one list of what stands in several
joined : List (List Encoding) → List Encoding
joined [] = []
joined (p ∷ ps) = List.◌++◌ p (joined ps)

-- Every encoding of the manual.
unfoldable pub encodings : List Encoding
unfolding pages joined
encodings = joined pages

-- Words that fit a diagram but that the page's text calls UNDEFINED. LDRD and STRD (A10): an odd Rd.
unfoldable pub undefineds : List Encoding
undefineds = cond Illegal "000 P U I W 0 nnnn ddd1 iiii 11x1 iiii" ∷ []

-- What the manual calls the word that is seen so: UNDEFINED by the text, the instruction whose diagram fits (the first in the list; by
-- `one_class` of arm/proofs/ManualLaws.antt there is no other), or nothing.
unfoldable pub encoding_on : List ℕ → Class
encoding_on v = first_or (first_or Illegal (fitting encodings v)) (fitting undefineds v)

-- the manual's class of a word, before the naming rules
unfoldable pub encoding_of : ℕ → Class
encoding_of w = encoding_on (view w)
