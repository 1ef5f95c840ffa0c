-- How many registers a word's unconditional push of LR saves, by the word's fields.
-- Assumes nothing.
use Rattle.base.proofs.Prelude.{◌∙◌, sym, refl, ◌≡◌, ap, false, true, Bool, not, ⊎_elim, inr, inl, ◌⊎◌, ◌≤◌, ℕ, ◌<◌, ◌^◌, ◌/◌, ◌%◌, arith, eq-or-lt_of_le}
use Rattle.base.proofs.Prelude.{eqb, ltb, eqb→eq, eq-eqb, ne_eqb, le-ltb, ltb-true, ltb-false}
use Rattle.arm.specs.Ins.{decode_of}
use Rattle.arm.specs.Manual.{IsPush}
use Rattle.arm.specs.Naming.{class_of, regs_of, is_of_one}
use Rattle.arm.proofs.ConditionLaws.{condition-number}
use Rattle.arm.proofs.StackLaws.{push-fields, fields-push}
use Rattle.base.specs.Choice.{pick, both}
use Rattle.std.specs.Prelude.{Option, Some, None, MatchOption, count_ones}
use Rattle.context.specs.Blocks.{saved_by_word}
use Rattle.std.proofs.lemmas.Nat.{ones_cat}
use Rattle.std.specs.Int.Count.{ones}
use Rattle.classes.specs.declared.Class.TheVariants.{Push}
use Rattle.classes.specs.Class.{class_no, is}
use Rattle.classes.proofs.Numbers.{same_number}
use Rattle.encodings.proofs.Sweep.{every-at}
use Rattle.predicates.specs.Predicates.{saved_registers, has_lr}

-- ---- the register list: of a block store, bits 15 to 0; of a store of one register, that one

of_one : (w b : ℕ) → w / 0x200_0000 ≡ b → is_of_one Push w ≡ eqb (b % 8) 2
unfolding is_of_one class_no
of_one w b e = rw (e, is_of_one) (same (eqb (b % 8) 2))
  where
    same : (t : Bool) → elim t [ true ↦ true | false ↦ false ] ≡ t
    same true = refl
    same false = refl

block-list : (w : ℕ) → w / 0x200_0000 ≡ 116 → regs_of Push w ≡ w % 0x1_0000
unfolding regs_of
block-list w e = rw (of_one w 116 e, regs_of)

single-list : (w : ℕ) → w / 0x200_0000 ≡ 114 → regs_of Push w ≡ 2 ^ (w / 0x1000 % 16)
unfolding regs_of
single-list w e = rw (of_one w 114 e, regs_of)

-- a list of one register that holds LR is LR's
lr-alone : (r : ℕ) → r < 16 → has_lr (2 ^ r) ≡ true → r ≡ 14
lr-alone r h e = eqb→eq r 14 (rw e at (every-at 16 0 (λ r. pick (has_lr (2 ^ r)) (eqb r 14) true) tt r (omega arith) (omega arith)))

lr-one : count_ones (2 ^ 14) ≡ 1
unfolding ones
lr-one = ones_cat 14 1 0 (omega arith)

never : false ≡ true → ⊥
never e = let z : ◌≡◌ {A = ℕ} 0 1 = cc in omega (arith, z)

-- a condition above 1101 that is not 1111
always : (w : ℕ) → w < 2 ^ 32 → 14 ≤ w / 0x1000_0000 → (w / 0x1000_0000 ≡ 15 → ⊥) → w / 0x1000_0000 ≡ 14
always w h e n = ⊎_elim (λ q. sym q) (λ l. absurd (n (omega arith))) (eq-or-lt_of_le e)

-- ---- the entry instructions

module _ (w a : ℕ) where
  abbrev pushes-lr : Bool
  pushes-lr = both (not (ltb (w / 0x1000_0000) 14)) (both (is (class_of w) Push) (has_lr (regs_of (class_of w) w)))

  saves : w < 2 ^ 32 → saved_registers (decode_of w a) ≡ pick pushes-lr (count_ones (regs_of (class_of w) w)) 0
  unfolding saved_registers decode_of
  saves h = rw (condition-number w a h) refl

  -- STMDB SP!, by its list
  pub block-saves : w / 0x1_0000 ≡ 0xE92D
      → pick (eqb (w % 0x1_0000 / 0x4000 % 2) 1) (count_ones (w % 0x1_0000)) 0 ≡ saved_registers (decode_of w a)
  unfolding class_no
  block-saves e =
      sym
      (saves (omega arith)
      ∙ rw (
        le-ltb (w / 0x1000_0000) 14 (omega arith),
        fields-push w (record { condition = λ f. omega arith; transfer = inl (ap (λ (n : ℕ). n % 0x1000) e) }),
        block-list w (omega arith),
      ))

  -- STR LR, [SP, #-4]!, and no other word
  is_single : w < 2 ^ 32 → (w / 0x1_0000 ≡ 0xE92D → ⊥) → pushes-lr ≡ eqb w 0xE52D_E004
  unfolding class_no
  is_single h n = when (ltb (w / 0x1000_0000) 14) refl
    where
      lists : w / 0x1_0000 ≡ 0xE52D → w % 0x1000 ≡ 4 → (b : Bool) → has_lr (2 ^ (w / 0x1000 % 16)) ≡ b → b ≡ eqb w 0xE52D_E004
      lists e f true q =
          let r : w / 0x1000 % 16 ≡ 14 = lr-alone (w / 0x1000 % 16) (omega arith) q in
          sym (eq-eqb w 0xE52D_E004 (omega arith))
      lists e f false q = sym (ne_eqb w 0xE52D_E004 (λ g. never (sym q ∙ rw g)))

      pushes : 14 ≤ w / 0x1000_0000 → IsPush w → has_lr (regs_of Push w) ≡ eqb w 0xE52D_E004
      pushes e p = go p.transfer
        where
          go : (w / 0x1_0000 % 0x1000 ≡ 0x92D) ⊎ ((w / 0x1_0000 % 0x1000 ≡ 0x52D) × (w % 0x1000 ≡ 4)) → has_lr (regs_of Push w) ≡ eqb w 0xE52D_E004
          go (inl f) = absurd (n (omega (arith, always w h e p.condition)))
          go (inr f) =
              let t : w / 0x1_0000 ≡ 0xE52D = omega (arith, always w h e p.condition) in
              rw (single-list w (omega arith)) (lists t f.1 (has_lr (2 ^ (w / 0x1000 % 16))) refl)

      named : 14 ≤ w / 0x1000_0000 → (p : Bool) → is (class_of w) Push ≡ p → both p (has_lr (regs_of (class_of w) w)) ≡ eqb w 0xE52D_E004
      named e true f =
          let k : class_of w ≡ Push = same_number (class_of w) Push (rw f tt) in
          rw k (pushes e (push-fields w k))
      named e false f =
          let push : w ≡ 0xE52D_E004 → IsPush w = λ g. record { condition = λ c. omega arith; transfer = inr (rw g, rw g) } in
          sym (ne_eqb w 0xE52D_E004 (λ g. never (sym f ∙ rw (fields-push w (push g)))))

      when : (b : Bool) → ltb (w / 0x1000_0000) 14 ≡ b
          → both (not b) (both (is (class_of w) Push) (has_lr (regs_of (class_of w) w))) ≡ eqb w 0xE52D_E004
      when true e = sym (ne_eqb w 0xE52D_E004 (λ g. omega (arith, ltb-true (w / 0x1000_0000) 14 e)))
      when false e = named (ltb-false (w / 0x1000_0000) 14 e) (is (class_of w) Push) refl

  single-one : w ≡ 0xE52D_E004 → count_ones (regs_of (class_of w) w) ≡ 1
  single-one e =
      rw (
        fields-push w (record { condition = λ c. omega arith; transfer = inr (omega arith, omega arith) }),
        single-list w (omega arith),
        e,
      ) lr-one

  pub single-saves : w < 2 ^ 32 → (w / 0x1_0000 ≡ 0xE92D → ⊥) → pick (eqb w 0xE52D_E004) 1 0 ≡ saved_registers (decode_of w a)
  single-saves h n = sym (saves h ∙ rw (is_single h n) (step (eqb w 0xE52D_E004) refl))
    where
      step : (b : Bool) → eqb w 0xE52D_E004 ≡ b → pick b (count_ones (regs_of (class_of w) w)) 0 ≡ pick b 1 0
      step true e = single-one (eqb→eq w 0xE52D_E004 (rw e tt))
      step false e = refl

-- ---- of a word that may be missing

pub word-saves : (o : Option ℕ) (a : ℕ) {n : ℕ} → MatchOption o (n ≡ 0) (λ w. (a : ℕ) → n ≡ saved_by_word (Some w) a) → n ≡ saved_by_word o a
word-saves None a e = e
word-saves (Some w) a e = e a
