-- Encoding diagrams as the manual prints them, and what it means that one fits a word.
-- Assumes nothing.
use Rattle.std.specs.Prelude.{ℕ, zero, suc, ◌/◌, ◌%◌, ◌^◌, Bool, true, false, List, [], ◌∷◌, eqb}
use Prim.Native.Char.{code}
use Prim.Native.String.{String}
use Rattle.classes.specs.declared.Class.{Class}

-- A column of a diagram: a bit that is fixed, or one that belongs to a field.
pub data Column : Type 0 where
  fixed : ℕ → Column
  free : Column

-- '0' and '1' are fixed, a space only separates, any other character names a field
unfoldable pub column : ℕ → List Column → List Column
column c rest =
    elim (eqb c 48) [
      | true ↦ fixed 0 ∷ rest
      | false ↦ elim (eqb c 49) [
        | true ↦ fixed 1 ∷ rest
        | false ↦ elim (eqb c 32) [ true ↦ rest | false ↦ free ∷ rest ]
      ]
    ]

unfoldable pub columns : String → List Column
unfolding column
columns String.[] = []
columns (String.◌∷◌ c s) = column (code c) (columns s)

-- An encoding: the instruction's class, and its columns, first "is the condition 1111?", then bits 27 to 0.
pub record Encoding : Type 0 where
  pub class : Class
  pub at : List Column

-- a page whose diagram begins with `cond`: every condition but 1111
unfoldable pub cond : Class → String → Encoding
unfolding columns
cond k s = record { class = k; at = fixed 0 ∷ columns s }

-- a page whose diagram begins with 1111
unfoldable pub uncond : Class → String → Encoding
unfolding columns
uncond k s = record { class = k; at = fixed 1 ∷ columns s }

-- the n low bits of a number, the highest first
unfoldable pub bits : ℕ → ℕ → List ℕ
bits zero w = []
bits (suc n) w = w / 2 ^ n % 2 ∷ bits n w

-- 1 where the condition field is 1111, else 0
unfoldable pub unconditional : ℕ → ℕ
unconditional w = elim (eqb (w / 2 ^ 28) 15) [ true ↦ 1 | false ↦ 0 ]

-- a word as an encoding's columns look at it
unfoldable pub view : ℕ → List ℕ
unfolding bits unconditional
view w = unconditional w ∷ bits 28 w

-- every fixed column holds its bit
unfoldable pub fits : List Column → List ℕ → Bool
fits [] v = true
fits (free ∷ d) [] = false
fits (free ∷ d) (b ∷ v) = fits d v
fits (fixed x ∷ d) [] = false
fits (fixed x ∷ d) (b ∷ v) = elim (eqb b x) [ true ↦ fits d v | false ↦ false ]

-- the classes of the encodings that fit
unfoldable pub fitting : List Encoding → List ℕ → List Class
unfolding fits
fitting [] v = []
fitting (e ∷ es) v = elim (fits e.at v) [ true ↦ e.class ∷ fitting es v | false ↦ fitting es v ]

-- the first class of a list; k where there is none
unfoldable pub first_or : Class → List Class → Class
first_or k [] = k
first_or k (c ∷ cs) = c
