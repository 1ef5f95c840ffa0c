-- Exactly which words are Push and which are Pop, by their fields.
use mathlib.Core.Path.{◌≡◌, refl, sym, ap, subst, ◌∙◌}
use mathlib.Core.Bool.{Bool, true, false, not}
use mathlib.Core.Logic.{◌⊎◌, inl, inr}
use Prim.Native.Nat.{ℕ, ◌/◌, ◌%◌, ◌<◌}
use native.Mathlib.Omega.{arith}
use borrow.Author.Tests.{eq-eqb}
use lib.Dec.{T, eqb, eqb→eq}
use Rattle.std.proofs.lemmas.Bool.Decides.{nat_tests}
use Rattle.classes.specs.declared.Class.{Class}
use Rattle.classes.specs.declared.Class.TheVariants.{Stm, Ldm, Str, Ldr, Push, Pop}
use Rattle.classes.specs.declared.ShiftOp.{ShiftOp}
use Rattle.classes.specs.declared.Op2.{Op2}
use Rattle.classes.specs.Class.{class_no}
use Rattle.encodings.specs.Diagram.{unconditional}
use Rattle.encodings.specs.Encodings.{encoding_of}
use Rattle.modes.specs.Operands.{op2_of}
use Rattle.arm.specs.Naming.{shift_name, mov_name, stm_name, ldm_name, str_name, ldr_name, name_of, class_of}
use Rattle.arm.specs.Manual.{IsPush, IsPop}
use Rattle.encodings.proofs.Reduce.{reduced, unconditional-no, unconditional-yes, unconditional-below}
use Rattle.encodings.proofs.Sweep.{passes, region, anywhere, everywhere, everywhere-at, and, and_left, and_right}
use Rattle.arm.proofs.ManualLaws.{Rule, rule, by-mov, by-stm, by-ldm, by-str, by-ldr, by-none}

-- ---- the fields settle the class

-- a word whose bits 27 to 20 always are one class's
by-op : (op : ℕ) (k : Class) → T (passes 0 op 1 anywhere k) → (w : ℕ) → (w / 268435456 ≡ 15 → ⊥) → w / 1048576 % 256 ≡ op → encoding_of w ≡ k
by-op op k t w n e =
    reduced w
    ∙ rw (unconditional-no w n)
    (region 0 op 1 anywhere k t (w / 1048576 % 256) (w / 4096 % 2) (w / 16 % 16) (omega arith, (omega arith, (omega arith, (omega arith, tt)))))

named : (w : ℕ) (k n : Class) → encoding_of w ≡ k → name_of k w ≡ n → class_of w ≡ n
unfolding class_of
named w k n e f = ap (λ (j : Class). name_of j w) e ∙ f

-- the rule of each class that is renamed to one of the two
stm-named : (w : ℕ) → name_of Stm w ≡ stm_name w
unfolding name_of class_no
stm-named w = refl

ldm-named : (w : ℕ) → name_of Ldm w ≡ ldm_name w
unfolding name_of class_no
ldm-named w = refl

str-named : (w : ℕ) → name_of Str w ≡ str_name w
unfolding name_of class_no
str-named w = refl

ldr-named : (w : ℕ) → name_of Ldr w ≡ ldr_name w
unfolding name_of class_no
ldr-named w = refl

pub fields-push : (w : ℕ) → IsPush w → class_of w ≡ Push
unfolding stm_name str_name passes
fields-push w h = go h.transfer
  where
    go : (w / 65536 % 4096 ≡ 2349) ⊎ ((w / 65536 % 4096 ≡ 1325) × (w % 4096 ≡ 4)) → class_of w ≡ Push
    go (inl e) = named w Stm Push (by-op 146 Stm tt w h.condition (omega arith)) (stm-named w ∙ rw (eq-eqb (w / 65536 % 512) 301 (omega arith), stm_name))
    go (inr e) = named w Str Push (by-op 82 Str tt w h.condition (omega arith)) (str-named w ∙ rw (eq-eqb (w / 65536 % 4096) 1325 e.0, eq-eqb (w % 4096) 4 e.1, str_name))

pub fields-pop : (w : ℕ) → IsPop w → class_of w ≡ Pop
unfolding ldm_name ldr_name passes
fields-pop w h = go h.transfer
  where
    go : (w / 65536 % 4096 ≡ 2237) ⊎ ((w / 65536 % 4096 ≡ 1181) × (w % 4096 ≡ 4)) → class_of w ≡ Pop
    go (inl e) = named w Ldm Pop (by-op 139 Ldm tt w h.condition (omega arith)) (ldm-named w ∙ rw (eq-eqb (w / 65536 % 512) 189 (omega arith), ldm_name))
    go (inr e) = named w Ldr Pop (by-op 73 Ldr tt w h.condition (omega arith)) (ldr-named w ∙ rw (eq-eqb (w / 65536 % 4096) 1181 e.0, eq-eqb (w % 4096) 4 e.1, ldr_name))

-- ---- no other word has it

-- a block transfer stands under every condition but 1111 with bits 27 to 25 100, a single transfer under every condition but 1111, and no
-- encoding has a name that document 01 adds
abbrev placed : ℕ → ℕ → Class → Bool
placed nv op k =
    elim (eqb (class_no k) 52) [
      | true ↦ and (eqb nv 0) (eqb (op / 32) 4)
      | false ↦ elim (eqb (class_no k) 16) [
        | true ↦ and (eqb nv 0) (eqb (op / 32) 4)
        | false ↦ elim (eqb (class_no k) 53) [
          | true ↦ eqb nv 0
          | false ↦ elim (eqb (class_no k) 17) [
            | true ↦ eqb nv 0
            | false ↦ elim (eqb (class_no k) 67) [ true ↦ false | false ↦ elim (eqb (class_no k) 68) [ true ↦ false | false ↦ true ] ]
          ]
        ]
      ]
    ]

placed-everywhere : T (everywhere placed)
unfolding everywhere class_no
placed-everywhere = tt

placed_at : (w : ℕ) (k : Class) → encoding_of w ≡ k → T (placed (unconditional w) (w / 1048576 % 256) k)
placed_at w k e =
    subst (λ (c : Class). T (placed (unconditional w) (w / 1048576 % 256) c)) (sym (reduced w) ∙ e)
    (everywhere-at placed placed-everywhere (unconditional w) (w / 1048576 % 256) (w / 4096 % 2) (w / 16 % 16) (unconditional-below w) (omega arith) (omega arith) (omega arith))

-- the condition is another than 1111
not-1111 : (w : ℕ) → T (eqb (unconditional w) 0) → w / 268435456 ≡ 15 → ⊥
not-1111 w t e = let n : unconditional w ≡ 0 = eqb→eq (unconditional w) 0 t in let y : unconditional w ≡ 1 = unconditional-yes w e in omega arith

block : (w : ℕ) → T (and (eqb (unconditional w) 0) (eqb (w / 1048576 % 256 / 32) 4)) → (w / 268435456 ≡ 15 → ⊥) × (w / 1048576 % 256 / 32 ≡ 4)
block w t = (
  not-1111 w (and_left (eqb (unconditional w) 0) (eqb (w / 1048576 % 256 / 32) 4) t),
  eqb→eq (w / 1048576 % 256 / 32) 4 (and_right (eqb (unconditional w) 0) (eqb (w / 1048576 % 256 / 32) 4) t),
)

-- two tests that give j, or else k, gave j
both-passed : (x a y b : ℕ) (j k : Class) → (k ≡ j → ⊥) → elim (eqb x a) as (λ _. Class) [ true ↦ elim (eqb y b) as (λ _. Class) [ true ↦ j | false ↦ k ] | false ↦ k ] ≡ j → (x ≡ a) × (y ≡ b)
both-passed x a y b j k n e = grind (arith, nat_tests)

-- neither of two names is a third
neither : (b c : Bool) (i j k : Class) → (i ≡ k → ⊥) → (j ≡ k → ⊥) → elim b as (λ _. Class) [ true ↦ elim c as (λ _. Class) [ true ↦ i | false ↦ j ] | false ↦ j ] ≡ k → ⊥
neither true true i j k m n e = m e
neither true false i j k m n e = n e
neither false c i j k m n e = n e

-- classes with unlike numbers are unlike
apart : (j k : Class) → T (not (eqb (class_no j) (class_no k))) → j ≡ k → ⊥
apart j k t e = grind (arith, nat_tests)

-- MOV's rule gives Mov or a shift
shift-no : (o : ShiftOp) (k : Class) → (class_no k < 69) × (28 < class_no k) → shift_name o ≡ k → ⊥
unfolding shift_name class_no
shift-no o k h e = grind arith

mov-no : (o : Op2) (k : Class) → (class_no k < 69) × (28 < class_no k) → mov_name o ≡ k → ⊥
unfolding mov_name shift_name class_no
mov-no o k h e = grind arith

pub push-fields : (w : ℕ) → class_of w ≡ Push → IsPush w
unfolding class_of stm_name ldm_name str_name ldr_name class_no
push-fields w e = go (rule (encoding_of w) Push w e)
  where
    go : Rule (encoding_of w) Push w → IsPush w
    go (by-mov k n) = absurd (mov-no (op2_of w) Push (omega arith, omega arith) n)
    go (by-stm k n) =
        let f = block w (placed_at w Stm k) in
        let r : w / 65536 % 512 ≡ 301 = (both-passed (w / 65536 % 512) 301 0 0 Push Stm (apart Stm Push tt) n).0 in
        let g : w / 1048576 % 256 / 32 ≡ 4 = f.1 in
        record { condition = f.0; transfer = inl (omega arith) }
    go (by-ldm k n) = absurd (neither (eqb (w / 65536 % 512) 189) true Pop Ldm Push (apart Pop Push tt) (apart Ldm Push tt) n)
    go (by-str k n) =
        let r = both-passed (w / 65536 % 4096) 1325 (w % 4096) 4 Push Str (apart Str Push tt) n in
        record { condition = not-1111 w (placed_at w Str k); transfer = inr r }
    go (by-ldr k n) = absurd (neither (eqb (w / 65536 % 4096) 1181) (eqb (w % 4096) 4) Pop Ldr Push (apart Pop Push tt) (apart Ldr Push tt) n)
    go (by-none k) = absurd (placed_at w Push k)

pub pop-fields : (w : ℕ) → class_of w ≡ Pop → IsPop w
unfolding class_of stm_name ldm_name str_name ldr_name class_no
pop-fields w e = go (rule (encoding_of w) Pop w e)
  where
    go : Rule (encoding_of w) Pop w → IsPop w
    go (by-mov k n) = absurd (mov-no (op2_of w) Pop (omega arith, omega arith) n)
    go (by-stm k n) = absurd (neither (eqb (w / 65536 % 512) 301) true Push Stm Pop (apart Push Pop tt) (apart Stm Pop tt) n)
    go (by-ldm k n) =
        let f = block w (placed_at w Ldm k) in
        let r : w / 65536 % 512 ≡ 189 = (both-passed (w / 65536 % 512) 189 0 0 Pop Ldm (apart Ldm Pop tt) n).0 in
        let g : w / 1048576 % 256 / 32 ≡ 4 = f.1 in
        record { condition = f.0; transfer = inl (omega arith) }
    go (by-str k n) = absurd (neither (eqb (w / 65536 % 4096) 1325) (eqb (w % 4096) 4) Push Str Pop (apart Push Pop tt) (apart Str Pop tt) n)
    go (by-ldr k n) =
        let r = both-passed (w / 65536 % 4096) 1181 (w % 4096) 4 Pop Ldr (apart Ldr Pop tt) n in
        record { condition = not-1111 w (placed_at w Ldr k); transfer = inr r }
    go (by-none k) = absurd (placed_at w Pop k)
