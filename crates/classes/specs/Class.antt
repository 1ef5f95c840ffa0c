-- The classes and their numbers, in document 01's order: the manual's names as they are printed, then the names that 01 adds.
-- Assumes nothing.
use Rattle.std.specs.Prelude.{ℕ, Bool, eqb}
use Rattle.classes.specs.declared.Class.{Class}
use Rattle.classes.specs.declared.Class.TheVariants.{Adc, Add, And, B, Bic, Bkpt, Bl, Blx1, Blx2, Bx, Cdp, Clz, Cmn, Cmp, Eor, Ldc}
use Rattle.classes.specs.declared.Class.TheVariants.{Ldm, Ldr, Ldrb, Ldrbt, Ldrd, Ldrh, Ldrsb, Ldrsh, Ldrt, Mcr, Mcrr, Mla, Mov, Mrc}
use Rattle.classes.specs.declared.Class.TheVariants.{Mrrc, Mrs, Msr, Mul, Mvn, Orr, Pld, Qadd, Qdadd, Qdsub, Qsub, Rsb, Rsc, Sbc}
use Rattle.classes.specs.declared.Class.TheVariants.{Smlal, Smlalxy, Smlawy, Smlaxy, Smull, Smulwy, Smulxy, Stc, Stm, Str, Strb}
use Rattle.classes.specs.declared.Class.TheVariants.{Strbt, Strd, Strh, Strt, Sub, Swi, Swp, Swpb, Teq, Tst, Umlal, Umull, Push, Pop}
use Rattle.classes.specs.declared.Class.TheVariants.{Lsl, Lsr, Asr, Ror, Illegal}

-- a class's place in that order
unfoldable pub class_no : Class → ℕ
class_no Adc = 0
class_no Add = 1
class_no And = 2
class_no B = 3
class_no Bic = 4
class_no Bkpt = 5
class_no Bl = 6
class_no Blx1 = 7
class_no Blx2 = 8
class_no Bx = 9
class_no Cdp = 10
class_no Clz = 11
class_no Cmn = 12
class_no Cmp = 13
class_no Eor = 14
class_no Ldc = 15
class_no Ldm = 16
class_no Ldr = 17
class_no Ldrb = 18
class_no Ldrbt = 19
class_no Ldrd = 20
class_no Ldrh = 21
class_no Ldrsb = 22
class_no Ldrsh = 23
class_no Ldrt = 24
class_no Mcr = 25
class_no Mcrr = 26
class_no Mla = 27
class_no Mov = 28
class_no Mrc = 29
class_no Mrrc = 30
class_no Mrs = 31
class_no Msr = 32
class_no Mul = 33
class_no Mvn = 34
class_no Orr = 35
class_no Pld = 36
class_no Qadd = 37
class_no Qdadd = 38
class_no Qdsub = 39
class_no Qsub = 40
class_no Rsb = 41
class_no Rsc = 42
class_no Sbc = 43
class_no Smlal = 44
class_no Smlalxy = 45
class_no Smlawy = 46
class_no Smlaxy = 47
class_no Smull = 48
class_no Smulwy = 49
class_no Smulxy = 50
class_no Stc = 51
class_no Stm = 52
class_no Str = 53
class_no Strb = 54
class_no Strbt = 55
class_no Strd = 56
class_no Strh = 57
class_no Strt = 58
class_no Sub = 59
class_no Swi = 60
class_no Swp = 61
class_no Swpb = 62
class_no Teq = 63
class_no Tst = 64
class_no Umlal = 65
class_no Umull = 66
class_no Push = 67
class_no Pop = 68
class_no Lsl = 69
class_no Lsr = 70
class_no Asr = 71
class_no Ror = 72
class_no Illegal = 73

-- one class is another
abbrev pub is : Class → Class → Bool
is j k = eqb (class_no j) (class_no k)
