-- Where a decoded branch goes: one that goes ahead goes at least to the next instruction.
-- Assumes nothing.
use Rattle.base.proofs.Prelude.{◌∙◌, sym, refl, ◌≡◌, ap, subst, false, true, Bool, List, [], ◌∷◌, ◌≤◌, ℕ, ◌+◌, ◌<◌, ◌*◌, ◌^◌, ◌/◌, ◌%◌, arith, eqb, T}
use Rattle.base.proofs.Prelude.{eq-eqb, eqb-true}
use mathlib.Core.List.{Memᴰ}
use lib.Signed.{mag}
use mir.Syntax.{w32}
use mir.Val.{SFits, of_z}
use Rattle.classes.specs.declared.Class.{Class}
use Rattle.classes.specs.declared.Class.TheVariants.{B}
use Rattle.classes.specs.Class.{class_no}
use Rattle.encodings.specs.Diagram
use Rattle.encodings.specs.Diagram.{Column, fixed, free, Encoding, fits, fitting, view, unconditional}
use Rattle.encodings.specs.Encodings.{encodings}
use Rattle.arm.specs.Ins.{decode_of}
use Rattle.arm.specs.Naming.{class_of}
use Rattle.modes.specs.Offset.{branch_offset}
use Rattle.modes.specs.Operands.{extra_of, target_of}
use Rattle.arm.proofs.ManualLaws.{class-named}
use Rattle.classes.proofs.Numbers.{same_number}
use Rattle.modes.proofs.OffsetLaws.{by_bits, branch-range}
use Rattle.encodings.proofs.Sweep.{and, and_left, and_right}
use Rattle.predicates.specs.Predicates.{is_branch}

T_true : (b : Bool) → T b → b ≡ true
T_true true t = refl
T_true false t = absurd t

true-T : (b : Bool) → b ≡ true → T b
true-T b e = subst (λ (c : Bool). T c) (sym e) tt

-- ---- B has no form without a condition

-- a diagram of B begins with a condition
abbrev begins : List Column → Bool
begins [] = false
begins (free ∷ d) = false
begins (fixed x ∷ d) = eqb x 0

abbrev implied : Bool → Bool → Bool
implied true t = t
implied false t = true

abbrev conditioned : List Encoding → Bool
conditioned [] = true
conditioned (e ∷ es) = and (implied (eqb (class_no e.class) (class_no B)) (begins e.at)) (conditioned es)

conditioned-encodings : T (conditioned encodings)
unfolding encodings class_no Diagram.cond Diagram.uncond
conditioned-encodings = tt

-- where a diagram of B fits, the condition is not 1111
conditioned-first : (u : ℕ) (v : List ℕ) (d : List Column) → T (begins d) → fits d (u ∷ v) ≡ true → u ≡ 0
unfolding fits
conditioned-first u v [] t e = absurd t
conditioned-first u v (free ∷ d) t e = absurd t
conditioned-first u v (fixed x ∷ d) t e = go (eqb u x) refl e
  where
    go : (b : Bool) → eqb u x ≡ b → elim b as (λ _. Bool) [ true ↦ fits d v | false ↦ false ] ≡ true → u ≡ 0
    go true k f = eqb-true u x k ∙ eqb-true x 0 (T_true (eqb x 0) t)
    go false k f = let z : ◌≡◌ {A = ℕ} 0 1 = cc in omega arith

conditioned-fits : (u : ℕ) (v : List ℕ) (es : List Encoding) → T (conditioned es) → Memᴰ B (fitting es (u ∷ v)) → u ≡ 0
unfolding fitting
conditioned-fits u v [] t m = elim m [ ]
conditioned-fits u v (e ∷ es) t m =
    go (fits e.at (u ∷ v)) refl
    (and_left (implied (eqb (class_no e.class) (class_no B)) (begins e.at)) (conditioned es) t)
    (conditioned-fits u v es (and_right (implied (eqb (class_no e.class) (class_no B)) (begins e.at)) (conditioned es) t))
    m
  where
    go : (b : Bool) → fits e.at (u ∷ v) ≡ b → T (implied (eqb (class_no e.class) (class_no B)) (begins e.at))
        → (Memᴰ B (fitting es (u ∷ v)) → u ≡ 0)
        → Memᴰ B (elim b as (λ _. List Class) [ true ↦ e.class ∷ fitting es (u ∷ v) | false ↦ fitting es (u ∷ v) ])
        → u ≡ 0
    go true k h next (Memᴰ.head f) =
        conditioned-first u v e.at (subst (λ (b : Bool). T (implied b (begins e.at))) (eq-eqb _ _ (ap class_no (sym f))) h) k
    go true k h next (Memᴰ.tail n) = next n
    go false k h next n = next n

branch-conditioned : (w : ℕ) → class_of w ≡ B → unconditional w ≡ 0
unfolding view class_no
branch-conditioned w e = conditioned-fits (unconditional w) _ encodings conditioned-encodings (class-named w B (omega arith) e).fits

no_extra : (w : ℕ) → class_of w ≡ B → extra_of w ≡ 0
unfolding extra_of unconditional
no_extra w e = go (eqb (w / 2 ^ 28) 15) (branch-conditioned w e)
  where
    go : (b : Bool) → ◌≡◌ {A = ℕ} (elim b as (λ _. ℕ) [ true ↦ 1 | false ↦ 0 ]) 0
        → ◌≡◌ {A = ℕ} (elim b as (λ _. ℕ) [ true ↦ 2 * (w / 2 ^ 24 % 2) | false ↦ 0 ]) 0
    go true f = absurd (omega arith)
    go false f = refl

-- ---- where a branch goes

target_is : (w a : ℕ) → is_branch (decode_of w a) ≡ true → (a + 8 + 4 * of_z w32 (branch_offset w) + 0) % 0x1_0000_0000 ≡ (decode_of w a).target
unfolding decode_of target_of
target_is w a h =
    let k : class_of w ≡ B = same_number _ _ (true-T _ h) in
    let r : mag (branch_offset w) < 2 ^ 23 = branch-range w in
    let s : SFits w32 (branch_offset w) = record { sfits = omega arith } in
    rw (no_extra w k) (by_bits a (branch_offset w) 0 s)

-- a branch ahead goes at least to the next instruction
pub branch-past : (w a : ℕ) → is_branch (decode_of w a) ≡ true → a < (decode_of w a).target → a + 4 ≤ (decode_of w a).target
branch-past w a h l = omega (arith, target_is w a h)
