-- How many registers an instruction saves: some exactly where it is an unconditional push of LR, and never more than there are.
-- Assumes nothing.
use Rattle.base.proofs.Prelude.{sym, refl, ◌≡◌, true, false, Bool, not, false≢true, ⊎_elim, ◌≤◌, ℕ, ◌<◌, ◌^◌, zero-le, arith, ltb, lt-ltb, eq-or-lt_of_le}
use Rattle.std.specs.Prelude.{count_ones}
use Rattle.std.proofs.lemmas.Nat.{zero_from_ones, ones-le}
use Rattle.classes.specs.declared.Class.TheVariants.{Push}
use Rattle.classes.specs.Class.{is}
use Rattle.arm.specs.declared.Ins.{Ins}
use Rattle.arm.specs.Ins.{is_conditional}
use Rattle.base.specs.Choice.{pick, both}
use Rattle.base.proofs.ChoiceLaws.{both-second}
use Rattle.predicates.specs.Predicates.{has_lr, saved_registers, is_entry_instruction}

-- a list with LR has a register
lr-counts : (regs : ℕ) → has_lr regs ≡ true → 0 < count_ones regs
lr-counts regs e = ⊎_elim (λ z. absurd (false≢true (rw (zero_from_ones regs (sym z)) at e))) (λ l. l) (eq-or-lt_of_le zero-le)

module _ (i : Ins) where
  abbrev pushes-lr : Bool
  pushes-lr = both (not (is_conditional i.cond)) (both (is i.class Push) (has_lr i.regs))

  -- Function::is_entry_instruction
  pub entry-is : is_entry_instruction i ≡ both (not (is_conditional i.cond)) (both (is i.class Push) (has_lr i.regs))
  unfolding saved_registers
  entry-is = step pushes-lr refl
    where
      step : (b : Bool) → pushes-lr ≡ b → ltb 0 (pick b (count_ones i.regs) 0) ≡ b
      step true e = lt-ltb 0 (count_ones i.regs) (lr-counts i.regs (both-second (is i.class Push) (has_lr i.regs) (both-second (not (is_conditional i.cond)) _ e)))
      step false e = refl

  pub saved-most : i.regs < 2 ^ 16 → saved_registers i ≤ 16
  unfolding saved_registers
  saved-most h = step pushes-lr
    where
      step : (b : Bool) → pick b (count_ones i.regs) 0 ≤ 16
      step true = ones-le 16 i.regs h
      step false = omega arith
