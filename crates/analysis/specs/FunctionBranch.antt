-- function_branch.rs: `handle` and `is_function_branch`, case by case in the source's order.
-- Assumes nothing.
use Rattle.std.specs.Prelude.{Bool, true, false, eqb}
use Rattle.classes.specs.declared.Class.TheVariants.{Eor, Mov, Ldr, Add, B}
use Rattle.classes.specs.declared.Cond.TheVariants.{Mi, Ge, Al}
use Rattle.arm.specs.declared.Ins.{Ins}
use Rattle.analysis.specs.declared.function_branch.FunctionBranchState.{FunctionBranchState}
use Rattle.analysis.specs.declared.function_branch.FunctionBranchState.TheVariants.{Start, Eors, MovgePcLr, MovFromSp, LdrIpPc, AddR0Ip, FunctionBranch}
use Rattle.analysis.specs.Pattern.{is_when, is_data, is_register, is_pre, ip, sp, lr, pc}
use Rattle.base.specs.Choice.{pick, both}

-- movge pc, lr
unfoldable pub movge_pc_lr : Ins → Bool
movge_pc_lr i = both (is_data i Mov Ge false) (both (eqb i.rd pc) (is_register i.op2 lr))

-- mov *, sp
unfoldable pub mov_from_sp : Ins → Bool
mov_from_sp i = both (is_data i Mov Al false) (is_register i.op2 sp)

-- ldr ip, [pc, *]
unfoldable pub ldr_ip_pc : Ins → Bool
ldr_ip_pc i = both (is_when i Ldr Al) (both (eqb i.rd ip) (is_pre i.addr pc))

-- add r0, r0, ip
unfoldable pub add_r0_ip : Ins → Bool
add_r0_ip i = both (is_data i Add Al false) (both (eqb i.rd 0) (both (eqb i.rn 0) (is_register i.op2 ip)))

-- eors *, *, *; movge pc, lr; mov *, sp; ldr ip, [pc, *]
unfoldable pub at_start : Ins → FunctionBranchState
at_start i =
    pick (is_data i Eor Al true) Eors
    (pick (movge_pc_lr i) MovgePcLr
    (pick (mov_from_sp i) MovFromSp
    (pick (ldr_ip_pc i) LdrIpPc Start)))

-- bmi *
unfoldable pub after_eors : Ins → FunctionBranchState
after_eors i = pick (is_when i B Mi) FunctionBranch (pick i.updates_condition_flags Start Eors)

-- b *
unfoldable pub before_branch : Ins → FunctionBranchState
before_branch i = pick (is_when i B Al) FunctionBranch Start

-- add r0, r0, ip
unfoldable pub after_ldr : Ins → FunctionBranchState
after_ldr i = pick (add_r0_ip i) AddR0Ip Start

abbrev pub function_branch : FunctionBranchState → Ins → FunctionBranchState
function_branch Start i = at_start i
function_branch Eors i = after_eors i
function_branch MovgePcLr i = before_branch i
function_branch MovFromSp i = before_branch i
function_branch LdrIpPc i = after_ldr i
function_branch AddR0Ip i = before_branch i
function_branch FunctionBranch i = Start

abbrev pub is_function_branch : FunctionBranchState → Bool
is_function_branch Start = false
is_function_branch Eors = false
is_function_branch MovgePcLr = false
is_function_branch MovFromSp = false
is_function_branch LdrIpPc = false
is_function_branch AddR0Ip = false
is_function_branch FunctionBranch = true
