-- At most one class has a diagram that fits a word.
use mathlib.Core.Path.{sym, subst}
use mathlib.Core.Bool.{Bool, true}
use mathlib.Core.List.{List, [], ◌∷◌}
use Prim.Native.Nat.{ℕ, ◌/◌, ◌%◌, ◌<◌}
use native.Mathlib.Omega.{arith}
use lib.Dec.{T, eqb}
use Rattle.classes.specs.declared.Class.{Class}
use Rattle.classes.specs.Class.{class_no}
use Rattle.encodings.specs.Diagram
use Rattle.encodings.specs.Diagram.{fits, fitting, bits, view, unconditional}
use Rattle.encodings.specs.Encodings.{encodings}
use Rattle.encodings.specs.Deciding.{view_at}
use Rattle.encodings.proofs.Reduce.{encodings-decided, unconditional-below}
use Rattle.encodings.proofs.Sweep.{steps, steps-fit, and, every, every-at, rest}

abbrev pub alike : Class → List Class → Bool
alike k [] = true
alike k (c ∷ cs) = and (eqb (class_no c) (class_no k)) (alike k cs)

abbrev pub all_alike : List Class → Bool
all_alike [] = true
all_alike (c ∷ cs) = alike c cs

alike-cells : ℕ → ℕ → Bool
unfolding bits encodings fitting fits Diagram.cond Diagram.uncond class_no
alike-cells nv op =
    let es = steps (nv ∷ bits 8 op) encodings in
    every 2 0 (λ odd. every 16 0 (λ low. all_alike (fitting es (rest odd low))))

alike-everywhere : T (every 2 0 (λ nv. every 256 0 (alike-cells nv)))
unfolding alike-cells
alike-everywhere = tt

alike_at : (nv op odd low : ℕ) → nv < 2 → op < 256 → odd < 2 → low < 16 → T (all_alike (fitting encodings (view_at nv op odd low)))
unfolding alike-cells view_at
alike_at nv op odd low v o d l =
    let es = steps (nv ∷ bits 8 op) encodings in
    let half = every-at 2 0 (λ nv. every 256 0 (alike-cells nv)) alike-everywhere nv (omega arith) (omega arith) in
    let row = every-at 256 0 (alike-cells nv) half op (omega arith) (omega arith) in
    let col = every-at 2 0 (λ odd. every 16 0 (λ low. all_alike (fitting es (rest odd low)))) row odd (omega arith) (omega arith) in
    let cell = every-at 16 0 (λ low. all_alike (fitting es (rest odd low))) col low (omega arith) (omega arith) in
    subst (λ (cs : List Class). T (all_alike cs)) (sym (steps-fit (nv ∷ bits 8 op) (rest odd low) encodings)) cell

pub alike-word : (w : ℕ) → T (all_alike (fitting encodings (view w)))
alike-word w =
    rw (encodings-decided w)
    (alike_at (unconditional w) (w / 1048576 % 256) (w / 4096 % 2) (w / 16 % 16) (unconditional-below w) (omega arith) (omega arith) (omega arith))
