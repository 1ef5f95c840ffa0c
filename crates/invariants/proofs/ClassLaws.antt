-- A pool load is neither return nor entry nor branch, and an entry is no return: their classes differ.
-- Assumes nothing.
use Rattle.base.proofs.Prelude.{◌∙◌, sym, refl, ◌≡◌, true, false, Bool, not, ℕ, arith, eqb, eqb-true}
use Rattle.base.proofs.ChoiceLaws.{both_first, both-second}
use Rattle.analysis.specs.Pattern.{pc}
use Rattle.base.specs.Choice.{pick, both}
use Rattle.classes.specs.declared.Class.TheVariants.{Ldr, Push}
use Rattle.classes.specs.declared.Cond.TheVariants.{Al}
use Rattle.arm.specs.declared.Ins.{Ins}
use Rattle.classes.specs.Class.{class_no, is}
use Rattle.classes.specs.Cond.{is_cond}
use Rattle.arm.specs.Ins.{is_conditional}
use Rattle.predicates.specs.declared.Previous.{Previous}
use Rattle.predicates.specs.Predicates.{has_lr, is_entry_instruction, is_branch, is_off_pc, is_pool_load, is_mov_pc, is_ldm_pc, is_pop_pc, is_branch_back}
use Rattle.predicates.proofs.SavedLaws.{entry-is}
use Rattle.predicates.specs.Predicates.{is_subs_pc_lr, is_ldr_pc, is_eor_pc, is_add_pc, is_return_always, is_return_after, is_return}

pub same : (b : Bool) → pick b false false ≡ false
same true = refl
same false = refl

not-true : (b : Bool) → not b ≡ true → b ≡ false
not-true true e = absurd (let z : ◌≡◌ {A = ℕ} 0 1 = cc in omega arith)
not-true false e = refl

pub entry-push : (i : Ins) → is_entry_instruction i ≡ true → is i.class Push ≡ true
entry-push i e =
    both_first (is i.class Push) (has_lr i.regs)
    (both-second (not (is_conditional i.cond)) (both (is i.class Push) (has_lr i.regs)) (sym (entry-is i) ∙ e))

module _ (a : ℕ) (i : Ins) (previous : Previous) where
  pub entry-no-return : is_entry_instruction i ≡ true → is_return a i previous ≡ false
  unfolding class_no is_return is_return_after is_return_always is_mov_pc is_ldm_pc is_pop_pc is_branch_back is_subs_pc_lr is_ldr_pc is_eor_pc is_add_pc
  entry-no-return e =
      let class : class_no i.class ≡ class_no Push = eqb-true _ _ (entry-push i e) in
      rw class (same (is_conditional i.cond))

module _ (i : Ins) (load : is_pool_load i ≡ true) where
  pub load-ldr : is i.class Ldr ≡ true
  unfolding is_pool_load
  load-ldr = both_first (is i.class Ldr) _ load

  load-target : eqb i.rd pc ≡ false
  unfolding is_pool_load
  load-target = not-true (eqb i.rd pc) (both-second (is_off_pc i.addr) (not (eqb i.rd pc)) (both-second (is i.class Ldr) _ load))

  pub load-no-return : (a : ℕ) (previous : Previous) → is_return a i previous ≡ false
  unfolding class_no is_return is_return_after is_return_always is_mov_pc is_ldm_pc is_pop_pc is_branch_back is_subs_pc_lr is_ldr_pc is_eor_pc is_add_pc
  load-no-return a previous =
      let class : class_no i.class ≡ class_no Ldr = eqb-true _ _ load-ldr in
      rw (class, load-target, same (is_cond i.cond Al)) (same (is_conditional i.cond))

  pub load-no-entry : is_entry_instruction i ≡ false
  unfolding class_no
  load-no-entry =
      let class : class_no i.class ≡ class_no Ldr = eqb-true _ _ load-ldr in
      entry-is i ∙ rw class (none (not (is_conditional i.cond)))
    where
      none : (b : Bool) → both b false ≡ false
      none true = refl
      none false = refl

  pub load-no-branch : is_branch i ≡ false
  unfolding class_no
  load-no-branch =
      let class : class_no i.class ≡ class_no Ldr = eqb-true _ _ load-ldr in
      rw class
