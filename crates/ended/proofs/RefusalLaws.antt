-- A step's refusal is one of document 01's 5 to 13, by its name, block by block.
-- Assumes nothing.
use Rattle.base.proofs.Prelude.{refl, ◌≡◌, true, false, Bool, not, List, [], ◌∷◌, some, none, Option, ℕ, ◌+◌, eqb, ltb, leb}
use Rattle.std.specs.Prelude.{Option as Optional, Some, None, Result, Ok, Err}
use Rattle.base.specs.declared.refusal.Refusal.{Refusal}
use Rattle.base.specs.Refusals.{refusal_no, is_named}
use Rattle.base.specs.declared.refusal.Refusal.{Refusal}
use Rattle.base.specs.declared.refusal.Refusal.TheVariants.{IllegalOpcode, ShiftedBase, OffsetByItself, PcIntoPc, Beyond32Bits}
use Rattle.classes.specs.declared.Op2.{Op2}
use Rattle.classes.specs.declared.Op2.TheVariants.{Imm, ShiftImm, ShiftReg}
use Rattle.analysis.specs.declared.illegal_code.IllegalCodeState.{IllegalCodeState}
use Rattle.analysis.specs.declared.illegal_code.IllegalCodeState.TheVariants.{Start, ShiftedRegisterValue, Illegal}
use Rattle.analysis.specs.declared.inline_table.InlineTable.{InlineTable}
use Rattle.analysis.specs.declared.inline_table.InlineTableState.{InlineTableState}
use Rattle.analysis.specs.declared.inline_table.InlineTableState.TheVariants.{Start as T-Start, SubPc, ValidTable}
use Rattle.analysis.specs.declared.jump_table.JumpTableStateArm.{JumpTableStateArm}
use Rattle.analysis.specs.declared.jump_table.JumpTableStateArm.TheVariants.{CmpReg, JumpOrBranchSigned, SignedBaseline, JumpSigned, JumpAfterReturn, ValidJumpTable}
use Rattle.analysis.specs.IllegalCode.{illegal_code as code_machine, is_shift, dereferenced, offset_by_itself, reads_pc_into_pc}
use Rattle.analysis.specs.InlineTable.{inline_table as inline_machine, table_of, table_address, sub_from, sub_pc_of, table_made}
use Rattle.analysis.specs.JumpTable.{Answer, jump_table as jump_machine, table_end, end_of_entries, in_state, found}
use Rattle.analysis.specs.Pattern.{is_when}
use Rattle.analysis.specs.JumpTable.{compared, jump_or_branch, signed_baseline, jump_at, valid_table}
use Rattle.arm.specs.declared.Ins.{Ins}
use Rattle.arm.specs.Ins.{is_conditional}
use Rattle.base.specs.Choice.{pick, both, either}
use Rattle.base.specs.declared.refusal.Refusal.TheVariants.{IllegalOpcode, ShiftedBase, OffsetByItself, PcIntoPc, BranchOutside, PoolOutside, UndefinedRegister, Beyond32Bits, ListFull}
use Rattle.base.specs.Words.{word_from}
use Rattle.classes.specs.declared.Class.TheVariants.{Illegal as ILLEGAL, B, Pop}
use Rattle.classes.specs.declared.Cond.TheVariants.{Hi, Gt}
use Rattle.classes.specs.Class.{is}
use Rattle.context.specs.Blocks.{skip_pool, inline_table_at, table_end_at, skips_to, skip_inline_table, raised_to_table, after_jump, jump_table, coded, illegal_code}
use Rattle.context.specs.Blocks.{is_in, branch_outside, mark_pool, forget_written, is_long_branch_destination, is_tail_call, call_to, arm, thumb, final_return}
use Rattle.context.specs.Blocks.{entry_after_branch, past_gap, to_label, past_pools, label_raised, handle_label, is_other_function, branches, branched, branch}
use Rattle.context.specs.Blocks.{other, loaded, pool_load, tabled, after_inline, inline_table, called_as, function_call, check_defined}
use Rattle.context.specs.Blocks.{from_return, to_return, handle_ins_inner, passed, handle_ins}
use Rattle.context.specs.Context.{Context, Step, on, goes, ends, refuses, ◌▸◌, with_machines, with_registers, jump_table_to}
use Rattle.context.specs.Context.{enter_label, enter_pool, enter_jump_table, enter_inline_table, enter_call, label_row, pool_row, table_row, call_row}
use Rattle.predicates.specs.declared.Mode.{Mode}
use Rattle.predicates.specs.declared.Mode.TheVariants.{Arm, Thumb, Other}
use Rattle.predicates.specs.Predicates.{is_branch, is_bx, is_entry_instruction, is_pool_load, pool_address, is_function_call}
use Rattle.registers.specs.Registers.{source_of, holding}
use Rattle.rows.specs.Rows.{inserted}
use Rattle.rows.specs.Map.{key_of, stands-in, at_or_above, fits}
use Rattle.rows.specs.Run.{gap_from}
use Rattle.walk.specs.Checking.{undefined_register}

-- a refusal of a step
abbrev pub is_late : Refusal → Bool
is_late refusal = both (is_named refusal) (both (leb 5 (refusal_no refusal)) (leb (refusal_no refusal) 13))

-- a step that is refused is so by one of these
pub data Late : Step → Type 0 where
  is-on : {c : Context} → Late (on c)
  has-gone : {c : Context} → Late (goes c)
  has_ended : {a : ℕ} {c : Context} → Late (ends a c)
  is-refused : {r : ℕ} (n : Refusal) → is_late n ≡ true → Late (refuses n r)

chained : {s : Step} {f : Context → Step} → Late s → ((c : Context) → Late (f c)) → Late (s ▸ f)
chained (is-on {c}) h = h c
chained has-gone h = has-gone
chained has_ended h = has_ended
chained (is-refused n l) h = is-refused n l

chosen : {s t : Step} (b : Bool) → Late s → Late t → Late (pick b s t)
chosen true x y = x
chosen false x y = y

-- ---- what the machines over tables refuse: a sum that leaves 32 bits

data Sum {A : Type 0} : Result A Refusal → Type 0 where
  is-sum : (x : A) → Sum (Ok x)
  is-beyond : Sum (Err Beyond32Bits)

summed : {A : Type 0} {r s : Result A Refusal} (b : Bool) → Sum r → Sum s → Sum (pick b r s)
summed true x y = x
summed false x y = y

inline-sum : (s : InlineTableState) (mode : Bool) (a : ℕ) (i : Ins) → Sum (inline_machine s mode a i)
unfolding sub_pc_of sub_from table_address table_made
inline-sum T-Start mode a i = summed _ (from i.op2) (is-sum _)
  where
    from : (op2 : Op2) → Sum (sub_from mode a i.rd op2)
    from (Imm v) = summed _ is-beyond (summed _ (is-sum _) is-beyond)
    from (ShiftImm rm op n) = is-sum _
    from (ShiftReg rm op rs) = is-sum _
inline-sum (SubPc base table size) mode a i = summed _ (summed _ (is-sum _) is-beyond) (is-sum _)
inline-sum (ValidTable table) mode a i = is-sum _

found-sum : (a limit : ℕ) → Sum (found a limit)
unfolding found
found-sum a limit = summed _ (is-sum _) is-beyond

state-sum : (s : JumpTableStateArm) (a : ℕ) (i : Ins) → Sum (in_state s a i)
unfolding compared jump_or_branch signed_baseline jump_at valid_table
state-sum CmpReg a i = summed _ (is-sum _) (is-sum _)
state-sum (JumpOrBranchSigned index limit) a i =
    summed _ (found-sum a limit)
    (summed (is_when i B Gt) (is-sum _) (summed (is_when i Pop Hi) (is-sum _) (summed i.updates_condition_flags (is-sum _) (is-sum _))))
state-sum (SignedBaseline index limit) a i = summed _ (is-sum _) (is-sum _)
state-sum (JumpSigned index limit) a i = summed _ (found-sum a limit) (summed _ (is-sum _) (is-sum _))
state-sum (JumpAfterReturn index limit) a i = summed _ (found-sum a limit) (summed _ (is-sum _) (is-sum _))
state-sum (ValidJumpTable table limit) a i = summed _ (is-sum _) (is-sum _)

jump-sum : (s : JumpTableStateArm) (a : ℕ) (i : Ins) → Sum (jump_machine s a i)
unfolding jump_machine
jump-sum s a i = summed _ (is-sum _) (state-sum s a i)

end-sum : (s : JumpTableStateArm) → Sum (table_end s)
unfolding end_of_entries
end-sum CmpReg = is-sum _
end-sum (JumpOrBranchSigned index limit) = is-sum _
end-sum (SignedBaseline index limit) = is-sum _
end-sum (JumpSigned index limit) = is-sum _
end-sum (JumpAfterReturn index limit) = is-sum _
end-sum (ValidJumpTable table limit) = summed _ (is-sum _) is-beyond

-- ---- insertions

module _ (row : List ℕ) (c : Context) where
  label-late : Late (enter_label row c)
  label-late = chosen (fits label_row c.given.places.labels (inserted key_of row c.maps.labels)) is-on (is-refused ListFull refl)

  pool-late : Late (enter_pool row c)
  pool-late = chosen (fits pool_row c.given.places.pools (inserted key_of row c.maps.pools)) is-on (is-refused ListFull refl)

  jump-late : Late (enter_jump_table row c)
  jump-late = chosen (fits table_row c.given.places.jump_tables (inserted key_of row c.maps.jump_tables)) is-on (is-refused ListFull refl)

  inline-late : Late (enter_inline_table row c)
  inline-late = chosen (fits table_row c.given.places.inline_tables (inserted key_of row c.maps.inline_tables)) is-on (is-refused ListFull refl)

  enter-call-late : Late (enter_call row c)
  enter-call-late = chosen (fits call_row c.given.places.calls (inserted key_of row c.maps.calls)) is-on (is-refused ListFull refl)

-- ---- the start of handle_ins_inner

skip_pool-late : (c : Context) → Late (skip_pool c)
unfolding skip_pool
skip_pool-late c = chosen (stands-in c.maps.pools c.progress.address) has-gone is-on

skip_inline_table-late : (c : Context) → Late (skip_inline_table c)
unfolding skip_inline_table
skip_inline_table-late c = step (inline_table_at c.progress.address c.maps.inline_tables)
  where
    step : (t : Option (List ℕ)) → Late (skips_to t c)
    step none = is-on
    step (some t) = chosen (ltb (table_end_at t) 0x1_0000_0000) has-gone (is-refused Beyond32Bits refl)

raised-late : {t : Result (Optional ℕ) Refusal} → Sum t → (c : Context) → Late (raised_to_table t c)
raised-late (is-sum (Some end)) c = is-on
raised-late (is-sum None) c = is-on
raised-late is-beyond c = is-refused Beyond32Bits refl

module _ (i : Ins) where
  jump_table-late : (c : Context) → Late (jump_table i c)
  unfolding jump_table
  jump_table-late c = step (jump-sum c.machines.jump_table c.progress.address i)
    where
      step : {a : Answer} → Sum a → Late (after_jump i a c)
      step (is-sum (s, None)) = raised-late (end-sum s) _
      step (is-sum (s, Some t)) = chained (jump-late (t.address ∷ t.size ∷ []) (with_machines (jump_table_to s c.machines) c)) (raised-late (end-sum s))
      step is-beyond = is-refused Beyond32Bits refl

  illegal_code-late : (c : Context) → Late (illegal_code i c)
  unfolding illegal_code code_machine
  illegal_code-late c =
      step (is i.class ILLEGAL) (is_shift i) (dereferenced c.machines.illegal_code i) (offset_by_itself i) (reads_pc_into_pc i)
    where
      reason : Bool → Bool → Bool → Bool → Bool → IllegalCodeState
      reason p q r t u = pick p (Illegal IllegalOpcode) (pick q (ShiftedRegisterValue i.rd) (pick r (Illegal ShiftedBase) (pick t (Illegal OffsetByItself) (pick u (Illegal PcIntoPc) Start))))

      step : (p q r t u : Bool) → Late (coded (reason p q r t u) c)
      step true q r t u = is-refused IllegalOpcode refl
      step false true r t u = is-on
      step false false true t u = is-refused ShiftedBase refl
      step false false false true u = is-refused OffsetByItself refl
      step false false false false true = is-refused PcIntoPc refl
      step false false false false false = is-on

  branch_outside-late : (c : Context) → Late (branch_outside i c)
  unfolding branch_outside
  branch_outside-late c = chosen (both (is_branch i) (not (is_in 0x01FF_8000 0x0300_0000 i.target))) (is-refused BranchOutside refl) is-on

  mark_pool-late : (c : Context) → Late (mark_pool i c)
  unfolding mark_pool
  mark_pool-late c = chosen (both (is_bx i) (not (eqb (source_of c.registers i.rm) 0))) is-on is-on

  forget_written-late : (c : Context) → Late (forget_written i c)
  unfolding forget_written
  forget_written-late c = is-on

  -- ---- the rest of it

  call-late : (word mode : ℕ) (c : Context) → Late (call_to i word mode c)
  call-late word mode c = enter-call-late (c.progress.address ∷ word ∷ i.target ∷ mode ∷ []) c

  module _ (word size : ℕ) (block : Bool) where
    final_return-late : (returns : Bool) (c : Context) → Late (final_return i word size block returns c)
    unfolding final_return
    final_return-late returns c =
        chosen (both (not block) returns)
        (chosen (is_long_branch_destination (c.progress.address + size) c) is-on
        (chained (chosen (is_tail_call i size c) (call-late word arm c) is-on) (λ d. has_ended)))
        is-on

    entry_after_branch-late : (c : Context) → Late (entry_after_branch i block c)
    unfolding entry_after_branch
    entry_after_branch-late c =
        chosen
        (both (ltb c.progress.start c.progress.address)
        (both (is_entry_instruction i)
        (both c.progress.previous.is_branch (either block c.progress.previous.is_conditional))))
        has_ended
        is-on

    gap-late : (g : Optional ℕ) (c : Context) → Late (past_gap g c)
    gap-late (Some after) c = is-on
    gap-late None c = is-refused Beyond32Bits refl

    past_pools-late : (c : Context) → Late (past_pools i size c)
    unfolding past_pools
    past_pools-late c =
        chosen (stands-in c.maps.pools (c.progress.address + size)) (step (at_or_above c.next c.maps.labels)) is-on
      where
        step : (f : Optional ℕ) → Late (to_label i size f c)
        step (Some k) = is-on
        step None =
            chosen (ltb c.progress.address i.target) has_ended
            (gap-late (gap_from (stands-in c.maps.pools) (c.progress.address + size)) c)

    handle_label-late : (c : Context) → Late (handle_label i size block c)
    unfolding handle_label
    handle_label-late c = chained (label-late (i.target ∷ []) c) (λ d. past_pools-late (label_raised i block d))

    branch-late : (c : Context) → Late (branch i word size block c)
    unfolding branch branches
    branch-late c =
        let d = branched i c in
        chosen (is_branch i)
        (chosen (is_in d.given.options.module_start d.given.options.module_end i.target)
        (chosen (is_other_function i d)
        (chosen (both (not (is_conditional i.cond)) (not block)) has_ended (call-late word arm d))
        (handle_label-late d))
        (call-late word arm d))
        is-on

  pool_load-late : (c : Context) → Late (pool_load i c)
  unfolding pool_load
  pool_load-late c = chosen (is_pool_load i) (step _ (word_from c.given.code c.given.options.base (pool_address c.progress.address i))) is-on
    where
      step : (a : ℕ) (w : Optional ℕ) → Late (loaded i a w c)
      step a (Some value) = chained (pool-late (a ∷ value ∷ other ∷ []) (with_registers (holding c.registers i.rd value a) c)) (λ d. is-on)
      step a None = is-refused PoolOutside refl

  inline_table-late : (c : Context) → Late (inline_table i c)
  unfolding inline_table
  inline_table-late c = step (inline-sum c.machines.inline_table false c.progress.address i)
    where
      table : (t : Optional InlineTable) (d : Context) → Late (tabled t d)
      table (Some t) d = inline-late (t.address ∷ t.size ∷ []) d
      table None d = is-on

      step : {a : Result InlineTableState Refusal} → Sum a → Late (after_inline i a c)
      step (is-sum s) = table (table_of s) _
      step is-beyond = is-refused Beyond32Bits refl

  function_call-late : (word : ℕ) (c : Context) → Late (function_call i word c)
  unfolding function_call
  function_call-late word c = step (is_function_call i)
    where
      step : (f : Optional Mode) → Late (called_as i word f c)
      step None = is-on
      step (Some Arm) = call-late word arm c
      step (Some Thumb) = call-late word thumb c
      step (Some (Other mode)) = call-late word mode c

  check_defined-late : (returns : Bool) (c : Context) → Late (check_defined i returns c)
  unfolding check_defined
  check_defined-late returns c =
      chosen (ltb (undefined_register c.given.options.check c.progress.defined_registers i) 16) (is-refused UndefinedRegister refl) is-on

  -- ---- one block after another

  inner-late : (word size : ℕ) (c : Context) → Late (handle_ins_inner i word size c)
  unfolding handle_ins_inner to_return from_return
  inner-late word size c =
      chained
      (chained
      (chained (chained (chained (chained (chained (skip_pool-late c) skip_inline_table-late) jump_table-late) illegal_code-late) branch_outside-late) mark_pool-late)
      forget_written-late)
      (λ d.
      chained
      (chained
      (chained
      (chained
      (chained (chained (final_return-late word size _ _ d) (entry_after_branch-late word size _)) (branch-late word size _))
      pool_load-late)
      inline_table-late)
      (function_call-late word))
      (check_defined-late _))

  pub step-late : (word size : ℕ) (c : Context) → Late (handle_ins i word size c)
  unfolding handle_ins
  step-late word size c = pass (c.progress.instruction_bytes + size) (inner-late word size _)
    where
      pass : (bytes : ℕ) {s : Step} → Late s → Late (passed i bytes s)
      pass bytes is-on = has-gone
      pass bytes has-gone = has-gone
      pass bytes has_ended = has_ended
      pass bytes (is-refused n l) = is-refused n l
