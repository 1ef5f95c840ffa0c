-- For every word: at most one class has a diagram that fits; the encoding's class, and the class after the naming rules,
-- are the manual's; and Illegal is exactly what fits no diagram or is called UNDEFINED.
use mathlib.Core.Path.{◌≡◌, refl, sym, ap, subst, ◌∙◌}
use mathlib.Core.Bool.{Bool, true, false}
use mathlib.Core.List.Memᴰ
use mathlib.Core.List.{List, [], ◌∷◌, Memᴰ}
use mathlib.Core.Logic.{◌⊎◌, inl, inr, ⊎_elim}
use Prim.Native.Nat.{ℕ, ◌/◌, ◌%◌, ◌<◌}
use native.Mathlib.Omega.{arith}
use lib.Dec.{T, eqb, ltb, ltb→lt}
use lib.ListN.{length}
use Rattle.classes.specs.declared.Class.{Class}
use Rattle.classes.specs.declared.Class.TheVariants.{Illegal, Mov, Stm, Ldm, Str, Ldr, Push, Pop}
use Rattle.classes.specs.declared.ShiftOp.{ShiftOp}
use Rattle.classes.specs.declared.Op2.{Op2}
use Rattle.classes.specs.Class.{class_no, is}
use Rattle.encodings.specs.Diagram
use Rattle.encodings.specs.Diagram.{Encoding, fits, fitting, first_or, view}
use Rattle.encodings.specs.Encodings.{encodings, undefineds, encoding_on, encoding_of}
use Rattle.arm.specs.Naming.{shift_name, mov_name, stm_name, ldm_name, str_name, ldr_name, name_of, class_of}
use Rattle.modes.specs.Operands.{op2_of}
use Rattle.arm.specs.Manual.{Fits, Undefined, OfManual, Added, Named, Left, by-diagram, by-text, by-absence}
use Rattle.classes.proofs.Numbers.{same_number}
use Rattle.encodings.proofs.Alike.{alike, all_alike, alike-word}
use Rattle.encodings.proofs.Sweep.{and, and_left, and_right, every}

-- ---- every diagram has a column for the condition and one for each of bits 27 to 0

abbrev whole : List Encoding → Bool
whole [] = true
whole (e ∷ es) = and (eqb (length e.at) 29) (whole es)

pub whole-encodings : T (whole encodings)
unfolding encodings Diagram.cond Diagram.uncond
whole-encodings = tt

pub whole-undefineds : T (whole undefineds)
unfolding undefineds Diagram.cond
whole-undefineds = tt

-- ---- at most one class fits

alike-member : (c k : Class) (cs : List Class) → T (alike c cs) → Memᴰ k cs → k ≡ c
alike-member c k [] t m = elim m [ ]
alike-member c k (d ∷ cs) t (Memᴰ.head e) = e ∙ same_number d c (and_left (eqb (class_no d) (class_no c)) (alike c cs) t)
alike-member c k (d ∷ cs) t (Memᴰ.tail m) = alike-member c k cs (and_right (eqb (class_no d) (class_no c)) (alike c cs) t) m

first_member : (k : Class) (cs : List Class) → T (all_alike cs) → Memᴰ k cs → first_or Illegal cs ≡ k
unfolding first_or
first_member k [] t m = elim m [ ]
first_member k (c ∷ cs) t (Memᴰ.head e) = sym e
first_member k (c ∷ cs) t (Memᴰ.tail m) = sym (alike-member c k cs t m)

-- The class of a diagram that fits is the only one.
pub one_class : (w : ℕ) (j k : Class) → Fits w j → Fits w k → j ≡ k
one_class w j k m n =
    sym (first_member j (fitting encodings (view w)) (alike-word w) m) ∙ first_member k (fitting encodings (view w)) (alike-word w) n

-- ---- the encoding's class

-- what the text calls UNDEFINED is Illegal
abbrev illegal : List Encoding → Bool
illegal [] = true
illegal (e ∷ es) = and (eqb (class_no e.class) (class_no Illegal)) (illegal es)

illegal-undefineds : T (illegal undefineds)
unfolding undefineds class_no Diagram.cond
illegal-undefineds = tt

-- a list that is empty, or begins with Illegal
abbrev Starts : List Class → Type 0
Starts cs = (cs ≡ []) ⊎ ((more : List Class) × (cs ≡ Illegal ∷ more))

starts : (v : List ℕ) (es : List Encoding) → T (illegal es) → Starts (fitting es v)
unfolding fitting
starts v [] t = inl refl
starts v (e ∷ es) t = go (fits e.at v) (starts v es (and_right (eqb (class_no e.class) (class_no Illegal)) (illegal es) t))
  where
    go : (b : Bool) → Starts (fitting es v) → Starts (elim b as (λ _. List Class) [ true ↦ e.class ∷ fitting es v | false ↦ fitting es v ])
    go true below = inr (fitting es v, ap (λ (c : Class). c ∷ fitting es v) (same_number e.class Illegal (and_left (eqb (class_no e.class) (class_no Illegal)) (illegal es) t)))
    go false below = below

undefined-or : (w : ℕ) → Starts (fitting undefineds (view w))
undefined-or w = starts (view w) undefineds illegal-undefineds

-- every diagram is of one of the manual's instructions
abbrev manual : List Encoding → Bool
manual [] = true
manual (e ∷ es) = and (ltb (class_no e.class) 67) (manual es)

manual-encodings : T (manual encodings)
unfolding encodings class_no Diagram.cond Diagram.uncond
manual-encodings = tt

manual-fitting : (v : List ℕ) (es : List Encoding) → T (manual es) → (k : Class) → Memᴰ k (fitting es v) → class_no k < 67
unfolding fitting
manual-fitting v [] t k m = elim m [ ]
manual-fitting v (e ∷ es) t k m =
    go (fits e.at v) (manual-fitting v es (and_right (ltb (class_no e.class) 67) (manual es) t) k) m
  where
    go : (b : Bool) → (Memᴰ k (fitting es v) → class_no k < 67) → Memᴰ k (elim b as (λ _. List Class) [ true ↦ e.class ∷ fitting es v | false ↦ fitting es v ]) → class_no k < 67
    go true below (Memᴰ.head h) = subst (λ (c : Class). class_no c < 67) (sym h) (ltb→lt (class_no e.class) 67 (and_left (ltb (class_no e.class) 67) (manual es) t))
    go true below (Memᴰ.tail h) = below h
    go false below h = below h

pub fits-manual : (w : ℕ) (k : Class) → Fits w k → OfManual k
fits-manual w k m = manual-fitting (view w) encodings manual-encodings k m

-- A diagram of k fits and the text does not call the word UNDEFINED: the encoding's class is k.
pub encoding-named : (w : ℕ) (k : Class) → Fits w k → (Undefined w → ⊥) → encoding_of w ≡ k
unfolding encoding_of encoding_on first_or
encoding-named w k m n =
    ⊎_elim (λ (e : fitting undefineds (view w) ≡ []). rw e (first_member k (fitting encodings (view w)) (alike-word w) m))
    (λ (e : (more : List Class) × (fitting undefineds (view w) ≡ Illegal ∷ more)). absurd (n (rw e.1 (Memᴰ.head refl))))
    (undefined-or w)

-- It is Illegal where the text calls the word UNDEFINED, and where no diagram fits.
pub encoding-undefined : (w : ℕ) → Undefined w → encoding_of w ≡ Illegal
unfolding encoding_of encoding_on first_or
encoding-undefined w u =
    ⊎_elim (λ (e : fitting undefineds (view w) ≡ []). absurd (Memᴰ.not-nil (rw e at u)))
    (λ (e : (more : List Class) × (fitting undefineds (view w) ≡ Illegal ∷ more)). rw e.1)
    (undefined-or w)

none-fits : (cs : List Class) → ((k : Class) → Memᴰ k cs → ⊥) → first_or Illegal cs ≡ Illegal
unfolding first_or
none-fits [] n = refl
none-fits (c ∷ cs) n = absurd (n c (Memᴰ.head refl))

pub encoding-absent : (w : ℕ) → ((k : Class) → Fits w k → ⊥) → encoding_of w ≡ Illegal
unfolding encoding_of encoding_on first_or
encoding-absent w n =
    ⊎_elim (λ (e : fitting undefineds (view w) ≡ []). rw e (none-fits (fitting encodings (view w)) n))
    (λ (e : (more : List Class) × (fitting undefineds (view w) ≡ Illegal ∷ more)). rw e.1)
    (undefined-or w)

-- Every word is of one of these three kinds.
kinds-of : (cs : List Class) → ((k : Class) × Memᴰ k cs) ⊎ ((k : Class) → Memᴰ k cs → ⊥)
kinds-of [] = inr (λ k m. Memᴰ.not-nil m)
kinds-of (c ∷ cs) = inl (c, Memᴰ.head refl)

pub kinds : (w : ℕ) → ((k : Class) × (Fits w k × (Undefined w → ⊥))) ⊎ (Undefined w ⊎ ((k : Class) → Fits w k → ⊥))
kinds w = go (undefined-or w) (kinds-of (fitting encodings (view w)))
  where
    go : Starts (fitting undefineds (view w)) → ((k : Class) × Fits w k) ⊎ ((k : Class) → Fits w k → ⊥) → ((k : Class) × (Fits w k × (Undefined w → ⊥))) ⊎ (Undefined w ⊎ ((k : Class) → Fits w k → ⊥))
    go (inl e) (inl m) = inl (m.0, (m.1, λ u. Memᴰ.not-nil (rw e at u)))
    go (inl e) (inr n) = inr (inr n)
    go (inr e) k = inr (inl (rw e.1 (Memᴰ.head refl)))

-- ---- the class, after the naming rules

added-shift : (o : ShiftOp) → (shift_name o ≡ Mov) ⊎ Added (shift_name o)
unfolding shift_name class_no
added-shift o = grind arith

added-mov : (o : Op2) → (mov_name o ≡ Mov) ⊎ Added (mov_name o)
unfolding mov_name shift_name class_no
added-mov o = grind arith

-- where two tests pass the name is an added one
added-by-two : (a b : Bool) (k j : Class) → Added j → (elim a as (λ _. Class) [ true ↦ elim b as (λ _. Class) [ true ↦ j | false ↦ k ] | false ↦ k ] ≡ k) ⊎ Added (elim a as (λ _. Class) [ true ↦ elim b as (λ _. Class) [ true ↦ j | false ↦ k ] | false ↦ k ])
added-by-two a b k j h = grind arith

added-stm : (w : ℕ) → (stm_name w ≡ Stm) ⊎ Added (stm_name w)
unfolding stm_name class_no
added-stm w = added-by-two (eqb (w / 65536 % 512) 301) true Stm Push (omega arith, omega arith)

added-ldm : (w : ℕ) → (ldm_name w ≡ Ldm) ⊎ Added (ldm_name w)
unfolding ldm_name class_no
added-ldm w = added-by-two (eqb (w / 65536 % 512) 189) true Ldm Pop (omega arith, omega arith)

added-str : (w : ℕ) → (str_name w ≡ Str) ⊎ Added (str_name w)
unfolding str_name class_no
added-str w = added-by-two (eqb (w / 65536 % 4096) 1325) (eqb (w % 4096) 4) Str Push (omega arith, omega arith)

added-ldr : (w : ℕ) → (ldr_name w ≡ Ldr) ⊎ Added (ldr_name w)
unfolding ldr_name class_no
added-ldr w = added-by-two (eqb (w / 65536 % 4096) 1181) (eqb (w % 4096) 4) Ldr Pop (omega arith, omega arith)

-- the rule by which a word of class k gets the name n
pub data Rule (k n : Class) (w : ℕ) : Type 0 where
  by-mov : k ≡ Mov → mov_name (op2_of w) ≡ n → Rule k n w
  by-stm : k ≡ Stm → stm_name w ≡ n → Rule k n w
  by-ldm : k ≡ Ldm → ldm_name w ≡ n → Rule k n w
  by-str : k ≡ Str → str_name w ≡ n → Rule k n w
  by-ldr : k ≡ Ldr → ldr_name w ≡ n → Rule k n w
  by-none : k ≡ n → Rule k n w

pub rule : (k n : Class) (w : ℕ) → name_of k w ≡ n → Rule k n w
unfolding name_of
rule k n w = go (is k Mov) refl (is k Stm) refl (is k Ldm) refl (is k Str) refl (is k Ldr) refl
  where
    known : (j : Class) → is k j ≡ true → k ≡ j
    known j e = same_number k j (subst (λ (b : Bool). T b) (sym e) tt)

    named : Bool → Bool → Bool → Bool → Bool → Class
    named a b c d f =
        elim a [
          | true ↦ mov_name (op2_of w)
          | false ↦ elim b [
            | true ↦ stm_name w
            | false ↦ elim c [
              | true ↦ ldm_name w
              | false ↦ elim d [
                | true ↦ str_name w
                | false ↦ elim f [ true ↦ ldr_name w | false ↦ k ]
              ]
            ]
          ]
        ]

    go : (a : Bool) → is k Mov ≡ a → (b : Bool) → is k Stm ≡ b → (c : Bool) → is k Ldm ≡ c → (d : Bool) → is k Str ≡ d → (f : Bool) → is k Ldr ≡ f → named a b c d f ≡ n → Rule k n w
    go true p b q c r d s f t e = by-mov (known Mov p) e
    go false p true q c r d s f t e = by-stm (known Stm q) e
    go false p false q true r d s f t e = by-ldm (known Ldm r) e
    go false p false q false r true s f t e = by-str (known Str s) e
    go false p false q false r false s true t e = by-ldr (known Ldr t) e
    go false p false q false r false s false t e = by-none e

-- a rule keeps the name, or gives one of the added ones
renamed : (k : Class) (w : ℕ) → (name_of k w ≡ k) ⊎ Added (name_of k w)
renamed k w = go (rule k (name_of k w) w refl)
  where
    kept : (j n : Class) → k ≡ j → n ≡ name_of k w → (n ≡ j) ⊎ Added n → (name_of k w ≡ k) ⊎ Added (name_of k w)
    kept j n e f (inl g) = inl (sym f ∙ g ∙ sym e)
    kept j n e f (inr a) = inr (subst (λ (c : Class). Added c) f a)

    go : Rule k (name_of k w) w → (name_of k w ≡ k) ⊎ Added (name_of k w)
    go (by-mov e f) = kept Mov (mov_name (op2_of w)) e f (added-mov (op2_of w))
    go (by-stm e f) = kept Stm (stm_name w) e f (added-stm w)
    go (by-ldm e f) = kept Ldm (ldm_name w) e f (added-ldm w)
    go (by-str e f) = kept Str (str_name w) e f (added-str w)
    go (by-ldr e f) = kept Ldr (ldr_name w) e f (added-ldr w)
    go (by-none e) = inl (sym e)

illegal-kept : (w : ℕ) → name_of Illegal w ≡ Illegal
unfolding name_of class_no
illegal-kept w = refl

unmoved : (j k : Class) (w : ℕ) → name_of j w ≡ k → (Added k → ⊥) → j ≡ k
unmoved j k w e n =
    ⊎_elim (λ (f : name_of j w ≡ j). sym f ∙ e) (λ (a : Added (name_of j w)). absurd (n (subst (λ (c : Class). Added c) e a))) (renamed j w)

-- Where a diagram of k fits and the text does not call the word UNDEFINED, its class is k under the naming rules.
pub class-by-rule : (w : ℕ) (k : Class) → Fits w k → (Undefined w → ⊥) → class_of w ≡ name_of k w
unfolding class_of
class-by-rule w k m n = ap (λ (j : Class). name_of j w) (encoding-named w k m n)

illegal-apart : (k : Class) → OfManual k → k ≡ Illegal → ⊥
unfolding class_no
illegal-apart k h e = let n : class_no k ≡ 73 = ap class_no e in omega arith

added-apart : (k : Class) → OfManual k → Added k → ⊥
added-apart k h a = omega arith

illegal-added : Added Illegal → ⊥
unfolding class_no
illegal-added a = omega arith

-- A word's class is one of the manual's exactly where its diagram fits, the text does not call the word UNDEFINED and no rule moves it.
pub named-class : (w : ℕ) (k : Class) → Named w k → class_of w ≡ k
named-class w k m = class-by-rule w k m.fits m.defined ∙ m.kept

pub class-named : (w : ℕ) (k : Class) → OfManual k → class_of w ≡ k → Named w k
unfolding class_of
class-named w k h e = go (kinds w)
  where
    same : encoding_of w ≡ k
    same = unmoved (encoding_of w) k w e (added-apart k h)

    go : ((j : Class) × (Fits w j × (Undefined w → ⊥))) ⊎ (Undefined w ⊎ ((j : Class) → Fits w j → ⊥)) → Named w k
    go (inl m) =
        let j≡k : m.0 ≡ k = sym (encoding-named w m.0 m.1.0 m.1.1) ∙ same in
        record {
          fits = subst (λ (j : Class). Fits w j) j≡k m.1.0;
          defined = m.1.1;
          kept = subst (λ (j : Class). name_of j w ≡ k) same e;
        }
    go (inr (inl u)) = absurd (illegal-apart k h (sym same ∙ encoding-undefined w u))
    go (inr (inr n)) = absurd (illegal-apart k h (sym same ∙ encoding-absent w n))

-- It is Illegal exactly where the text calls the word UNDEFINED or no diagram fits.
pub illegal-class : (w : ℕ) → Undefined w ⊎ ((k : Class) → Fits w k → ⊥) → class_of w ≡ Illegal
unfolding class_of
illegal-class w (inl u) = ap (λ (j : Class). name_of j w) (encoding-undefined w u) ∙ illegal-kept w
illegal-class w (inr n) = ap (λ (j : Class). name_of j w) (encoding-absent w n) ∙ illegal-kept w

pub class-illegal : (w : ℕ) → class_of w ≡ Illegal → Undefined w ⊎ ((k : Class) → Fits w k → ⊥)
unfolding class_of
class-illegal w e = go (kinds w)
  where
    same : encoding_of w ≡ Illegal
    same = unmoved (encoding_of w) Illegal w e illegal-added

    go : ((j : Class) × (Fits w j × (Undefined w → ⊥))) ⊎ (Undefined w ⊎ ((j : Class) → Fits w j → ⊥)) → Undefined w ⊎ ((k : Class) → Fits w k → ⊥)
    go (inl m) = absurd (illegal-apart m.0 (fits-manual w m.0 m.1.0) (sym (encoding-named w m.0 m.1.0 m.1.1) ∙ same))
    go (inr n) = n

-- Exactly one class is left for each word, and it is the word's class.
pub left-class : (w : ℕ) (k : Class) → Left w k → class_of w ≡ k
left-class w k (by-diagram j m n e) = class-by-rule w j m n ∙ e
left-class w k (by-text u e) = illegal-class w (inl u) ∙ sym e
left-class w k (by-absence n e) = illegal-class w (inr n) ∙ sym e

pub class-left : (w : ℕ) (k : Class) → class_of w ≡ k → Left w k
class-left w k e = go (kinds w)
  where
    go : ((j : Class) × (Fits w j × (Undefined w → ⊥))) ⊎ (Undefined w ⊎ ((j : Class) → Fits w j → ⊥)) → Left w k
    go (inl m) = by-diagram m.0 m.1.0 m.1.1 (sym (class-by-rule w m.0 m.1.0 m.1.1) ∙ e)
    go (inr (inl u)) = by-text u (sym e ∙ illegal-class w (inl u))
    go (inr (inr n)) = by-absence n (sym e ∙ illegal-class w (inr n))

-- ---- the diagrams leave out no instruction

abbrev has : ℕ → List Encoding → Bool
has n [] = false
has n (e ∷ es) = elim (eqb (class_no e.class) n) [ true ↦ true | false ↦ has n es ]

-- each of the manual's classes has a diagram
pub covered : T (every 67 0 (λ n. has n encodings))
unfolding encodings class_no Diagram.cond Diagram.uncond
covered = tt
