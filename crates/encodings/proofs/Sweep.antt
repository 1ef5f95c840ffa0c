-- A fact of the manual's encodings at every choice of the deciding fields in a region, by one test that is computed.
use mathlib.Core.Path.{◌≡◌, refl, ap, subst, sym, ◌∙◌}
use mathlib.Core.Bool.{Bool, true, false}
use mathlib.Core.List.{List, [], ◌∷◌, ◌++◌}
use Prim.Native.Nat.{ℕ, zero, suc, ◌+◌, ◌/◌, ◌%◌, ◌<◌, ◌≤◌}
use native.Mathlib.Omega.{arith}
use native.Mathlib.Nat.{eq-or-lt_of_le}
use lib.Dec.{T, leb, eqb}
use mathlib.Core.Logic.{⊎_elim}
use borrow.Author.Tests.{le-leb}
use Rattle.classes.specs.declared.Class.{Class}
use Rattle.classes.specs.declared.Class.TheVariants.{Illegal}
use Rattle.classes.specs.Class.{class_no}
use Rattle.encodings.specs.Diagram.{Column, fixed, free, Encoding, fits, fitting, first_or, bits}
use Rattle.encodings.specs.Diagram
use Rattle.encodings.specs.Encodings.{encodings, undefineds, encoding_on}
use Rattle.encodings.specs.Deciding.{view_at, encoding_at}
use Rattle.classes.proofs.Numbers.{same_number}

-- the encodings whose first column takes a bit, without that column
abbrev keep : ℕ → Class → List Column → List Encoding → List Encoding
keep b k [] es = record { class = k; at = [] } ∷ es
keep b k (free ∷ d) es = record { class = k; at = d } ∷ es
keep b k (fixed x ∷ d) es = elim (eqb b x) [ true ↦ record { class = k; at = d } ∷ es | false ↦ es ]

abbrev step : ℕ → List Encoding → List Encoding
step b [] = []
step b (e ∷ es) = keep b e.class e.at (step b es)

abbrev pub steps : List ℕ → List Encoding → List Encoding
steps [] es = es
steps (b ∷ v) es = steps v (step b es)

-- taking columns one by one leaves the same classes
keep-fits : (b : ℕ) (v : List ℕ) (k : Class) (d : List Column) (es : List Encoding) (ks : List Class) → ks ≡ fitting es v → elim (fits d (b ∷ v)) as (λ _. List Class) [ true ↦ k ∷ ks | false ↦ ks ] ≡ fitting (keep b k d es) v
unfolding fitting fits
keep-fits b v k [] es ks e = ap (λ (l : List Class). k ∷ l) e
keep-fits b v k (free ∷ d) es ks e = ap (λ (l : List Class). elim (fits d v) as (λ _. List Class) [ true ↦ k ∷ l | false ↦ l ]) e
keep-fits b v k (fixed x ∷ d) es ks e = go (eqb b x)
  where
    go : (t : Bool) → elim (elim t as (λ _. Bool) [ true ↦ fits d v | false ↦ false ]) as (λ _. List Class) [ true ↦ k ∷ ks | false ↦ ks ] ≡ fitting (elim t [ true ↦ record { class = k; at = d } ∷ es | false ↦ es ]) v
    go true = ap (λ (l : List Class). elim (fits d v) as (λ _. List Class) [ true ↦ k ∷ l | false ↦ l ]) e
    go false = e

step_fits : (b : ℕ) (v : List ℕ) (es : List Encoding) → fitting es (b ∷ v) ≡ fitting (step b es) v
unfolding fitting
step_fits b v [] = refl
step_fits b v (e ∷ es) = keep-fits b v e.class e.at (step b es) (fitting es (b ∷ v)) (step_fits b v es)

pub steps-fit : (u v : List ℕ) (es : List Encoding) → fitting es (u ++ v) ≡ fitting (steps u es) v
steps-fit [] v es = refl
steps-fit (b ∷ u) v es = step_fits b (u ++ v) es ∙ steps-fit u v (step b es)

-- a number between two bounds
pub record Bound : Type 0 where
  pub least : ℕ
  pub number : ℕ
  pub most : ℕ

abbrev pub between : ℕ → ℕ → ℕ → Bound
between l x m = record { least = l; number = x; most = m }

-- the second test where the first passes; the second is computed only there
abbrev pub and : Bool → Bool → Bool
and s t = elim s [ true ↦ t | false ↦ false ]

pub and_left : (s t : Bool) → T (and s t) → T s
and_left true t h = tt
and_left false t h = h

pub and_right : (s t : Bool) → T (and s t) → T t
and_right true t h = h
and_right false t h = absurd h

and-true : (s t : Bool) → s ≡ true → t ≡ true → and s t ≡ true
and-true s t p q = rw (p, q)

-- every bound holds, as a fact and as a test
abbrev pub Inside : List Bound → Type 0
Inside [] = Unit {0}
Inside (b ∷ bs) = (b.least ≤ b.number) × ((b.number ≤ b.most) × Inside bs)

abbrev inside : List Bound → Bool
inside [] = true
inside (b ∷ bs) = and (leb b.least b.number) (and (leb b.number b.most) (inside bs))

inside-true : (bs : List Bound) → Inside bs → inside bs ≡ true
inside-true [] h = refl
inside-true (b ∷ bs) h =
    and-true (leb b.least b.number) (and (leb b.number b.most) (inside bs)) (le-leb b.least b.number h.0)
    (and-true (leb b.number b.most) (inside bs) (le-leb b.number b.most h.1.0) (inside-true bs h.1.1))

-- n numbers from a on pass a test
abbrev pub every : ℕ → ℕ → (ℕ → Bool) → Bool
every zero a p = true
every (suc n) a p = elim (p a) [ true ↦ every n (suc a) p | false ↦ false ]

pub every-at : (n a : ℕ) (p : ℕ → Bool) → T (every n a p) → (x : ℕ) → a ≤ x → x < a + n → T (p x)
every-at zero a p t x h l = absurd (omega arith)
every-at (suc n) a p t x h l =
    ⊎_elim (λ (e : a ≡ x). subst (λ (y : ℕ). T (p y)) e (and_left (p a) (every n (suc a) p) t))
    (λ (g : a < x). every-at n (suc a) p (and_right (p a) (every n (suc a) p) t) x g (omega arith)) (eq-or-lt_of_le h)

-- the class where the encodings have been narrowed to those that take the first columns
abbrev pub narrowed : List Encoding → List Encoding → List ℕ → Class
narrowed es us v = first_or (first_or Illegal (fitting es v)) (fitting us v)

-- the columns after bit 20
abbrev pub rest : ℕ → ℕ → List ℕ
rest odd low = 0 ∷ 0 ∷ 0 ∷ 0 ∷ 0 ∷ 0 ∷ 0 ∷ odd ∷ 0 ∷ 0 ∷ 0 ∷ 0 ∷ bits 4 low ++ (0 ∷ 0 ∷ 0 ∷ 0 ∷ [])

-- at the fields of a region the encoding's class is k
abbrev pub Region : Type 0
Region = ℕ → ℕ → ℕ → List Bound

abbrev is : Class → Bool → Class → Bool
is k t c = elim t [ true ↦ eqb (class_no c) (class_no k) | false ↦ true ]

abbrev rows : Region → (ℕ → ℕ → Class) → ℕ → List Encoding → List Encoding → Bool
rows r f op es us = every 2 0 (λ odd. every 16 0 (λ low. is (f odd low) (inside (r op odd low)) (narrowed es us (rest odd low))))

-- the encodings have the classes of a table at the fields of a region
unfoldable pub agrees : ℕ → ℕ → ℕ → Region → (ℕ → ℕ → ℕ → Class) → Bool
unfolding bits encodings undefineds fitting first_or fits class_no Diagram.cond Diagram.uncond
agrees nv a n r f = every n a (λ op. rows r (f op) op (steps (nv ∷ bits 8 op) encodings) (steps (nv ∷ bits 8 op) undefineds))

-- they have one class there
unfoldable pub passes : ℕ → ℕ → ℕ → Region → Class → Bool
unfolding agrees
passes nv a n r k = agrees nv a n r (λ op odd low. k)

-- what a region asks of the fields
abbrev pub In : ℕ → ℕ → Region → ℕ → ℕ → ℕ → Type 0
In a n r op odd low = (a ≤ op) × ((op < a + n) × ((odd < 2) × ((low < 16) × Inside (r op odd low))))

pub narrowed-view : (nv op odd low : ℕ) → encoding_at nv op odd low ≡ narrowed (steps (nv ∷ bits 8 op) encodings) (steps (nv ∷ bits 8 op) undefineds) (rest odd low)
unfolding encoding_at encoding_on view_at
narrowed-view nv op odd low =
    rw (steps-fit (nv ∷ bits 8 op) (rest odd low) encodings, steps-fit (nv ∷ bits 8 op) (rest odd low) undefineds)

pub tabled : (nv a n : ℕ) (r : Region) (f : ℕ → ℕ → ℕ → Class) → T (agrees nv a n r f) → (op odd low : ℕ) → In a n r op odd low → encoding_at nv op odd low ≡ f op odd low
unfolding agrees
tabled nv a n r f t op odd low h =
    let es = steps (nv ∷ bits 8 op) encodings in
    let us = steps (nv ∷ bits 8 op) undefineds in
    let row = every-at n a (λ op. rows r (f op) op (steps (nv ∷ bits 8 op) encodings) (steps (nv ∷ bits 8 op) undefineds)) t op h.0 h.1.0 in
    let col = every-at 2 0 (λ odd. every 16 0 (λ low. is (f op odd low) (inside (r op odd low)) (narrowed es us (rest odd low)))) row odd (omega arith) (omega arith) in
    let cell = every-at 16 0 (λ low. is (f op odd low) (inside (r op odd low)) (narrowed es us (rest odd low))) col low (omega arith) (omega arith) in
    narrowed-view nv op odd low
    ∙ same_number (narrowed es us (rest odd low)) (f op odd low)
    (subst (λ (b : Bool). T (is (f op odd low) b (narrowed es us (rest odd low)))) (inside-true (r op odd low) h.1.1.1.1) cell)

pub region : (nv a n : ℕ) (r : Region) (k : Class) → T (passes nv a n r k) → (op odd low : ℕ) → In a n r op odd low → encoding_at nv op odd low ≡ k
unfolding passes
region nv a n r k t = tabled nv a n r (λ op odd low. k) t

-- a test of the class at every choice of the deciding fields
unfoldable pub everywhere : (ℕ → ℕ → Class → Bool) → Bool
unfolding bits encodings undefineds fitting first_or fits class_no Diagram.cond Diagram.uncond
everywhere p =
    every 2 0 (λ nv. every 256 0 (λ op.
    let es = steps (nv ∷ bits 8 op) encodings in
    let us = steps (nv ∷ bits 8 op) undefineds in
    every 2 0 (λ odd. every 16 0 (λ low. p nv op (narrowed es us (rest odd low))))))

pub everywhere-at : (p : ℕ → ℕ → Class → Bool) → T (everywhere p) → (nv op odd low : ℕ) → nv < 2 → op < 256 → odd < 2 → low < 16 → T (p nv op (encoding_at nv op odd low))
unfolding everywhere
everywhere-at p t nv op odd low v o d l =
    let at : ℕ → ℕ → ℕ → ℕ → Bool = λ nv op odd low. p nv op (narrowed (steps (nv ∷ bits 8 op) encodings) (steps (nv ∷ bits 8 op) undefineds) (rest odd low)) in
    let half = every-at 2 0 (λ nv. every 256 0 (λ op. every 2 0 (λ odd. every 16 0 (at nv op odd)))) t nv (omega arith) (omega arith) in
    let row = every-at 256 0 (λ op. every 2 0 (λ odd. every 16 0 (at nv op odd))) half op (omega arith) (omega arith) in
    let col = every-at 2 0 (λ odd. every 16 0 (at nv op odd)) row odd (omega arith) (omega arith) in
    subst (λ (c : Class). T (p nv op c)) (sym (narrowed-view nv op odd low)) (every-at 16 0 (at nv op odd) col low (omega arith) (omega arith))

-- regions: the whole range of `op` that a law names; `low` between two numbers, and not a multiply's or an extra transfer's
abbrev pub anywhere : Region
anywhere op odd low = []

abbrev pub lows : ℕ → ℕ → Region
lows a b op odd low = between a low b ∷ between 0 (low / 8 + low % 2) 1 ∷ []

-- a bound on a number made of the fields
abbrev pub where-is : (ℕ → ℕ → ℕ → ℕ) → ℕ → ℕ → Region → Region
where-is f a b r op odd low = between a (f op odd low) b ∷ r op odd low

-- L, bit 20
abbrev pub load : ℕ → ℕ → ℕ → ℕ
load op odd low = op % 2

-- at most 3 unless bits 25 and 4 are both one
abbrev pub shape : ℕ → ℕ → ℕ → ℕ
shape op odd low = op / 32 + low % 2

abbrev pub low_bits : ℕ → ℕ → ℕ → ℕ
low_bits op odd low = low

-- the same under every condition
pub at_both : (a n : ℕ) (r : Region) (f : ℕ → ℕ → ℕ → Class) → T (agrees 0 a n r f) → T (agrees 1 a n r f) → (nv op odd low : ℕ) → nv < 2 → In a n r op odd low → encoding_at nv op odd low ≡ f op odd low
at_both a n r f t u nv op odd low v h =
    ⊎_elim (λ (e : nv ≡ 1). rw e (tabled 1 a n r f u op odd low h))
    (λ (l : nv < 1). let e : nv ≡ 0 = omega arith in rw e (tabled 0 a n r f t op odd low h)) (eq-or-lt_of_le {m = 1} (omega arith))
