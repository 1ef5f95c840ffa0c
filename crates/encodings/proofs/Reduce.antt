-- The deciding fields of a word settle its encoding: every other column is free in every diagram.
use mathlib.Core.Path.{◌≡◌, refl, ap, ◌∙◌}
use mathlib.Core.Bool.{Bool, true, false}
use mathlib.Core.List.{List, [], ◌∷◌}
use Prim.Native.Nat.{ℕ, ◌/◌, ◌%◌, ◌<◌}
use native.Mathlib.Omega.{arith}
use lib.Dec.{T, eqb}
use borrow.Author.Tests.{eq-eqb, ne_eqb}
use Rattle.classes.specs.declared.Class.{Class}
use Rattle.encodings.specs.Diagram
use Rattle.encodings.specs.Diagram.{Column, fixed, free, Encoding, fits, fitting, bits, unconditional, view}
use Rattle.encodings.specs.Encodings.{encodings, undefineds, encoding_on, encoding_of}
use Rattle.encodings.specs.Deciding.{view_at, encoding_at}

-- two views agree wherever a mask says true
abbrev Agree : List Bool → List ℕ → List ℕ → Type 0
Agree [] xs ys = Unit {0}
Agree (b ∷ m) [] ys = ⊥
Agree (b ∷ m) (x ∷ xs) [] = ⊥
Agree (true ∷ m) (x ∷ xs) (y ∷ ys) = (x ≡ y) × Agree m xs ys
Agree (false ∷ m) (x ∷ xs) (y ∷ ys) = Agree m xs ys

-- a diagram that fixes no column outside the mask
abbrev within : List Bool → List Column → Bool
within [] [] = true
within [] (c ∷ d) = false
within (b ∷ m) [] = true
within (b ∷ m) (free ∷ d) = within m d
within (true ∷ m) (fixed x ∷ d) = within m d
within (false ∷ m) (fixed x ∷ d) = false

fits-same : (m : List Bool) (xs ys : List ℕ) → Agree m xs ys → (d : List Column) → T (within m d) → fits d xs ≡ fits d ys
unfolding fits
fits-same [] xs ys a [] t = refl
fits-same [] xs ys a (c ∷ d) t = absurd t
fits-same (b ∷ m) [] ys a d t = absurd a
fits-same (b ∷ m) (x ∷ xs) [] a d t = absurd a
fits-same (b ∷ m) (x ∷ xs) (y ∷ ys) a [] t = refl
fits-same (true ∷ m) (x ∷ xs) (y ∷ ys) a (free ∷ d) t = fits-same m xs ys a.1 d t
fits-same (true ∷ m) (x ∷ xs) (y ∷ ys) a (fixed z ∷ d) t =
    ap (λ (b : Bool). elim (eqb x z) as (λ _. Bool) [ true ↦ b | false ↦ false ]) (fits-same m xs ys a.1 d t)
    ∙ ap (λ (v : ℕ). elim (eqb v z) as (λ _. Bool) [ true ↦ fits d ys | false ↦ false ]) a.0
fits-same (false ∷ m) (x ∷ xs) (y ∷ ys) a (free ∷ d) t = fits-same m xs ys a d t
fits-same (false ∷ m) (x ∷ xs) (y ∷ ys) a (fixed z ∷ d) t = absurd t

abbrev all-within : List Bool → List Encoding → Bool
all-within m [] = true
all-within m (e ∷ es) = elim (within m e.at) [ true ↦ all-within m es | false ↦ false ]

first-within : (s t : Bool) → T (elim s as (λ _. Bool) [ true ↦ t | false ↦ false ]) → T s × T t
first-within true t h = (tt, h)
first-within false t h = absurd h

fitting-same : (m : List Bool) (xs ys : List ℕ) → Agree m xs ys → (es : List Encoding) → T (all-within m es) → fitting es xs ≡ fitting es ys
unfolding fitting
fitting-same m xs ys a [] t = refl
fitting-same m xs ys a (e ∷ es) t =
    let h = first-within (within m e.at) (all-within m es) t in
    ap (λ (b : Bool). elim b as (λ _. List Class) [ true ↦ e.class ∷ fitting es xs | false ↦ fitting es xs ]) (fits-same m xs ys a e.at h.0)
    ∙ ap (λ (l : List Class). elim (fits e.at ys) as (λ _. List Class) [ true ↦ e.class ∷ l | false ↦ l ]) (fitting-same m xs ys a es h.1)

-- the condition, bits 27 to 20, bit 12, bits 7 to 4
decisive : List Bool
decisive =
    true
    ∷ true ∷ true ∷ true ∷ true ∷ true ∷ true ∷ true ∷ true
    ∷ false ∷ false ∷ false ∷ false ∷ false ∷ false ∷ false ∷ true
    ∷ false ∷ false ∷ false ∷ false ∷ true ∷ true ∷ true ∷ true
    ∷ false ∷ false ∷ false ∷ false ∷ []

view-same : (w : ℕ) → Agree decisive (view w) (view_at (unconditional w) (w / 1048576 % 256) (w / 4096 % 2) (w / 16 % 16))
unfolding view view_at bits decisive
view-same w = omega arith

encodings-within : T (all-within decisive encodings)
unfolding decisive encodings Diagram.cond Diagram.uncond
encodings-within = tt

undefineds-within : T (all-within decisive undefineds)
unfolding decisive undefineds Diagram.cond
undefineds-within = tt

-- the view of the word that has only the deciding fields of w
abbrev pub deciding : ℕ → List ℕ
deciding w = view_at (unconditional w) (w / 1048576 % 256) (w / 4096 % 2) (w / 16 % 16)

pub encodings-decided : (w : ℕ) → fitting encodings (view w) ≡ fitting encodings (deciding w)
encodings-decided w = fitting-same decisive (view w) (deciding w) (view-same w) encodings encodings-within

pub undefineds-decided : (w : ℕ) → fitting undefineds (view w) ≡ fitting undefineds (deciding w)
undefineds-decided w = fitting-same decisive (view w) (deciding w) (view-same w) undefineds undefineds-within

pub reduced : (w : ℕ) → encoding_of w ≡ encoding_at (unconditional w) (w / 1048576 % 256) (w / 4096 % 2) (w / 16 % 16)
unfolding encoding_of encoding_at encoding_on
reduced w = rw (encodings-decided w, undefineds-decided w)

pub unconditional-yes : (w : ℕ) → w / 268435456 ≡ 15 → unconditional w ≡ 1
unfolding unconditional
unconditional-yes w e = rw (eq-eqb (w / 268435456) 15 e, unconditional)

pub unconditional-no : (w : ℕ) → (w / 268435456 ≡ 15 → ⊥) → unconditional w ≡ 0
unfolding unconditional
unconditional-no w n = rw (ne_eqb (w / 268435456) 15 n, unconditional)

pub unconditional-below : (w : ℕ) → unconditional w < 2
unfolding unconditional
unconditional-below w = go (eqb (w / 268435456) 15)
  where
    go : (t : Bool) → elim t as (λ _. ℕ) [ true ↦ 1 | false ↦ 0 ] < 2
    go true = omega arith
    go false = omega arith
