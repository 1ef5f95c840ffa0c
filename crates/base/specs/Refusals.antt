-- The refusals of documents 01 and 02, by name.
-- Assumes nothing.
use Rattle.std.specs.Prelude.{ℕ, Bool, true, false}
use Rattle.base.specs.declared.refusal.Refusal.{Refusal}
use Rattle.base.specs.declared.refusal.Refusal.TheVariants.{BadWindow, BadStart, UnalignedStart, BadLists, IllegalOpcode, ShiftedBase, OffsetByItself, PcIntoPc, BranchOutside}
use Rattle.base.specs.declared.refusal.Refusal.TheVariants.{PoolOutside, UndefinedRegister, Beyond32Bits, ListFull, NoEpilogue, NotDone, BadRequest, EmptyRecord, NoRoom, Other}

-- a refusal's number
abbrev pub refusal_no : Refusal → ℕ
refusal_no BadWindow = 1
refusal_no BadStart = 2
refusal_no UnalignedStart = 3
refusal_no BadLists = 4
refusal_no IllegalOpcode = 5
refusal_no ShiftedBase = 6
refusal_no OffsetByItself = 7
refusal_no PcIntoPc = 8
refusal_no BranchOutside = 9
refusal_no PoolOutside = 10
refusal_no UndefinedRegister = 11
refusal_no Beyond32Bits = 12
refusal_no ListFull = 13
refusal_no NoEpilogue = 14
refusal_no NotDone = 15
refusal_no BadRequest = 16
refusal_no EmptyRecord = 17
refusal_no NoRoom = 18
refusal_no (Other number) = number

-- it has one of those names
abbrev pub is_named : Refusal → Bool
is_named (Other number) = false
is_named refusal = true
