-- The fields that settle a word's class: whether its condition is 1111, bits 27 to 20 (op), 19 to 16 (rn), 12 (odd) and 11 to 0 (y).
use Rattle.base.proofs.Prelude.{◌∙◌, refl, ◌≡◌, ap, true, false, Bool, ℕ, ◌+◌, ◌*◌, ◌/◌, ◌%◌, arith, eqb}
use Rattle.classes.specs.declared.Class.{Class}
use Rattle.classes.specs.declared.Class.TheVariants.{Mov, Stm, Ldm, Str, Ldr, Push, Pop}
use Rattle.classes.specs.declared.Op2.{Op2}
use Rattle.classes.specs.declared.Op2.TheVariants.{Imm, ShiftImm, ShiftReg}
use Rattle.classes.specs.declared.ShiftOp.{ShiftOp}
use Rattle.classes.specs.Class.{is}
use Rattle.encodings.specs.Diagram.{unconditional}
use Rattle.encodings.specs.Deciding.{encoding_at}
use Rattle.modes.specs.Immediate.{immediate}
use Rattle.modes.specs.Operands.{shift_of, zero_shift_of, zero_amount_of, shift_imm_of, shift_amount_of, op2_of}
use Rattle.arm.specs.Naming.{shift_name, mov_name, stm_name, ldm_name, str_name, ldr_name, name_of, class_of}
use Rattle.encodings.proofs.Reduce.{reduced}

-- MOV's name by bits 25 and 4, the kind of the shift and its amount field
unfoldable pub shifted : Bool → Bool → ℕ → ℕ → Class
shifted is_immediate is_register kind amount =
    elim is_immediate [
      | true ↦ Mov
      | false ↦ elim is_register [
        | true ↦ shift_name (shift_of kind)
        | false ↦ elim (eqb (elim (eqb amount 0) as (λ _. ℕ) [ true ↦ zero_amount_of kind | false ↦ amount ]) 0) [
          | true ↦ Mov
          | false ↦ shift_name (elim (eqb amount 0) as (λ _. ShiftOp) [ true ↦ zero_shift_of kind | false ↦ shift_of kind ])
        ]
      ]
    ]

mov-shifted : (w : ℕ) → mov_name (op2_of w) ≡ shifted (eqb (w / 33554432 % 2) 1) (eqb (w / 16 % 2) 1) (w / 32 % 4) (w / 128 % 32)
unfolding op2_of mov_name shifted shift_imm_of shift_amount_of
mov-shifted w = go (eqb (w / 33554432 % 2) 1) (eqb (w / 16 % 2) 1)
  where
    go : (a b : Bool) → mov_name (elim a as (λ _. Op2) [ true ↦ Imm (immediate w) | false ↦ elim b as (λ _. Op2) [ true ↦ ShiftReg (w % 16) (shift_of (w / 32 % 4)) (w / 256 % 16) | false ↦ ShiftImm (w % 16) (shift_imm_of w) (shift_amount_of w) ] ]) ≡ shifted a b (w / 32 % 4) (w / 128 % 32)
    go true b = refl
    go false true = refl
    go false false = refl

-- a name by MOV's, bits 24 to 16, bits 27 to 16 and bits 11 to 0
unfoldable pub chosen : Class → Class → ℕ → ℕ → ℕ → Class
chosen k m nine twelve y =
    elim (is k Mov) [
      | true ↦ m
      | false ↦ elim (is k Stm) [
        | true ↦ elim (eqb nine 301) [ true ↦ Push | false ↦ Stm ]
        | false ↦ elim (is k Ldm) [
          | true ↦ elim (eqb nine 189) [ true ↦ Pop | false ↦ Ldm ]
          | false ↦ elim (is k Str) [
            | true ↦ elim (eqb twelve 1325) [ true ↦ elim (eqb y 4) [ true ↦ Push | false ↦ Str ] | false ↦ Str ]
            | false ↦ elim (is k Ldr) [
              | true ↦ elim (eqb twelve 1181) [ true ↦ elim (eqb y 4) [ true ↦ Pop | false ↦ Ldr ] | false ↦ Ldr ]
              | false ↦ k
            ]
          ]
        ]
      ]
    ]

name-chosen : (k : Class) (w : ℕ) → name_of k w ≡ chosen k (mov_name (op2_of w)) (w / 65536 % 512) (w / 65536 % 4096) (w % 4096)
unfolding name_of chosen stm_name ldm_name str_name ldr_name
name-chosen k w = refl

-- a name by the fields
abbrev pub name_at : Class → ℕ → ℕ → ℕ → Class
name_at k op rn y =
    chosen k (shifted (eqb (op / 32 % 2) 1) (eqb (y / 16 % 2) 1) (y / 32 % 4) (y / 128)) (op % 32 * 16 + rn) (op * 16 + rn) y

-- fields of the whole word and of its parts
bit-25 : (w : ℕ) → w / 33554432 % 2 ≡ w / 1048576 % 256 / 32 % 2
bit-25 w = omega arith

bit-4 : (w : ℕ) → w / 16 % 2 ≡ w % 4096 / 16 % 2
bit-4 w = omega arith

kind : (w : ℕ) → w / 32 % 4 ≡ w % 4096 / 32 % 4
kind w = omega arith

amount : (w : ℕ) → w / 128 % 32 ≡ w % 4096 / 128
amount w = omega arith

bits-24-to-16 : (w : ℕ) → w / 65536 % 512 ≡ w / 1048576 % 256 % 32 * 16 + w / 65536 % 16
bits-24-to-16 w = omega arith

bits-27-to-16 : (w : ℕ) → w / 65536 % 4096 ≡ w / 1048576 % 256 * 16 + w / 65536 % 16
bits-27-to-16 w = omega arith

low : (w : ℕ) → w / 16 % 16 ≡ w % 4096 / 16 % 16
low w = omega arith

name-fields : (k : Class) (w : ℕ) → name_of k w ≡ name_at k (w / 1048576 % 256) (w / 65536 % 16) (w % 4096)
name-fields k w = name-chosen k w ∙ rw (mov-shifted w, bit-25 w, bit-4 w, kind w, amount w, bits-24-to-16 w, bits-27-to-16 w)

-- a class by the fields
abbrev pub class_at : ℕ → ℕ → ℕ → ℕ → ℕ → Class
class_at nv op rn odd y = name_at (encoding_at nv op odd (y / 16 % 16)) op rn y

pub class-fields : (w : ℕ) → class_of w ≡ class_at (unconditional w) (w / 1048576 % 256) (w / 65536 % 16) (w / 4096 % 2) (w % 4096)
unfolding class_of
class-fields w =
    ap (λ (k : Class). name_of k w) (reduced w ∙ ap (λ (x : ℕ). encoding_at (unconditional w) (w / 1048576 % 256) (w / 4096 % 2) x) (low w))
    ∙ name-fields (encoding_at (unconditional w) (w / 1048576 % 256) (w / 4096 % 2) (w % 4096 / 16 % 16)) w
