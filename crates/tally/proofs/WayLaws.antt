-- How the words with each op are counted, and all of them together.
use Rattle.base.proofs.Prelude.{◌∙◌, sym, refl, ◌≡◌, ap, subst, false, true, Bool, List, [], ◌∷◌, ◌≤◌, ℕ, ◌+◌, ◌<◌, suc, ◌*◌, zero, ◌/◌, ◌%◌, arith}
use Rattle.base.proofs.Prelude.{eqb, T, eqb→eq, length, get_or, replicate, length-replicate}
use lib.ListN.{get_or-replicate}
use Rattle.classes.specs.declared.Class.{Class}
use Rattle.classes.specs.declared.Class.TheVariants.{Stm, Ldm, Str, Ldr, Push, Pop}
use Rattle.classes.specs.Class.{class_no, is}
use Rattle.classes.proofs.Numbers.{class-below}
use Rattle.encodings.specs.Diagram
use Rattle.encodings.specs.Diagram.{Encoding, bits, fits, fitting, first_or}
use Rattle.encodings.specs.Encodings.{encodings, undefineds}
use Rattle.encodings.specs.Deciding.{encoding_at}
use Rattle.encodings.proofs.Sweep.{steps, narrowed, narrowed-view, rest, every, every-at, region, passes, anywhere}
use Rattle.tally.specs.Counting.{one}
use Rattle.tally.proofs.CountLaws.{sum, same_tests}
use Rattle.tally.proofs.FieldLaws.{name_at}
use Rattle.tally.proofs.OpLaws.{with_op, keeps, Keeps, kept-count, moved, moves_alone, mov-count, on_sp, stm-name, ldm-name, str-name, ldr-name, block-count, single-count}
use Rattle.tally.proofs.TallyLaws.{listed, listed-often, added, added-length, added-at}

-- ---- four ways

-- The words with an op keep the manual's name; or MOV's rule may rename them; or a block transfer or a single transfer on SP is renamed.
pub data Way : Type 0 where
  kept : Way
  mov : Way
  block : Class → Class → Way
  single : Class → Class → Way

-- what makes a way the right one
abbrev Right : Way → ℕ → ℕ → Type 0
Right kept nv op = Keeps nv op
Right mov nv op = (op / 32 % 2 ≡ 0) × ((odd low : ℕ) → odd < 2 → low < 16 → T (moves_alone (encoding_at nv op odd low) op))
Right (block n j) nv op = (nv ≡ 0) × (((odd low : ℕ) → odd < 2 → low < 16 → encoding_at 0 op odd low ≡ j) × ((rn y : ℕ) → name_at j op rn y ≡ on_sp n j rn))
Right (single n j) nv op = (nv ≡ 0) × (((odd low : ℕ) → odd < 2 → low < 16 → encoding_at 0 op odd low ≡ j) × ((rn y : ℕ) → name_at j op rn y ≡ on_sp (elim (eqb y 4) as (λ _. Class) [ true ↦ n | false ↦ j ]) j rn))

-- the class at one choice of the deciding fields, the encodings being narrowed to those with op
abbrev cell : List Encoding → List Encoding → ℕ → ℕ → Class
cell es us odd low = narrowed es us (rest odd low)

unfoldable pub added_by : Way → ℕ → ℕ → List ℕ → List ℕ
unfolding bits encodings undefineds fitting first_or fits Diagram.cond Diagram.uncond
added_by kept nv op v =
    let es = steps (nv ∷ bits 8 op) encodings in
    let us = steps (nv ∷ bits 8 op) undefineds in
    added 32768 (listed (λ (i : ℕ). cell es us (i / 16) (i % 16)) 32) v
added_by mov nv op v =
    let es = steps (nv ∷ bits 8 op) encodings in
    let us = steps (nv ∷ bits 8 op) undefineds in
    added 2048 (listed (λ (i : ℕ). moved (cell es us (i / 256) (i % 16)) (i % 256)) 512) v
added_by (block n j) nv op v = added 65536 (listed (on_sp n j) 16) v
added_by (single n j) nv op v = added 16 (n ∷ []) (added 1048560 (j ∷ []) v)

added-length-by : (w : Way) (nv op : ℕ) (v : List ℕ) → length (added_by w nv op v) ≡ length v
unfolding added_by
added-length-by kept nv op v = added-length 32768 _ v
added-length-by mov nv op v = added-length 2048 _ v
added-length-by (block n j) nv op v = added-length 65536 _ v
added-length-by (single n j) nv op v = added-length 16 (n ∷ []) (added 1048560 (j ∷ []) v) ∙ added-length 1048560 (j ∷ []) v

by_way : (w : Way) (nv op : ℕ) → Right w nv op → (v : List ℕ) → length v ≡ 74 → (k : Class) → get_or (added_by w nv op v) (class_no k) 0 ≡ get_or v (class_no k) 0 + with_op nv op k
unfolding added_by
by_way kept nv op r v l k =
    added-at 32768 (listed (λ (i : ℕ). cell (steps (nv ∷ bits 8 op) encodings) (steps (nv ∷ bits 8 op) undefineds) (i / 16) (i % 16)) 32) v l k
    ∙ ap (λ (x : ℕ). get_or v (class_no k) 0 + 32768 * x) (listed-often k (λ (i : ℕ). cell (steps (nv ∷ bits 8 op) encodings) (steps (nv ∷ bits 8 op) undefineds) (i / 16) (i % 16)) 32 ∙ same_tests (λ (i : ℕ). is (cell (steps (nv ∷ bits 8 op) encodings) (steps (nv ∷ bits 8 op) undefineds) (i / 16) (i % 16)) k) (λ (i : ℕ). is (encoding_at nv op (i / 16) (i % 16)) k) 32 (λ i h. ap (λ (c : Class). is c k) (sym (narrowed-view nv op (i / 16) (i % 16)))))
    ∙ ap (λ (x : ℕ). get_or v (class_no k) 0 + x) (sym (kept-count nv op k r))
by_way mov nv op r v l k =
    added-at 2048 (listed (λ (i : ℕ). moved (cell (steps (nv ∷ bits 8 op) encodings) (steps (nv ∷ bits 8 op) undefineds) (i / 256) (i % 16)) (i % 256)) 512) v l k
    ∙ ap (λ (x : ℕ). get_or v (class_no k) 0 + 2048 * x) (listed-often k (λ (i : ℕ). moved (cell (steps (nv ∷ bits 8 op) encodings) (steps (nv ∷ bits 8 op) undefineds) (i / 256) (i % 16)) (i % 256)) 512 ∙ same_tests (λ (i : ℕ). is (moved (cell (steps (nv ∷ bits 8 op) encodings) (steps (nv ∷ bits 8 op) undefineds) (i / 256) (i % 16)) (i % 256)) k) (λ (i : ℕ). is (moved (encoding_at nv op (i / 256) (i % 16)) (i % 256)) k) 512 (λ i h. ap (λ (c : Class). is (moved c (i % 256)) k) (sym (narrowed-view nv op (i / 256) (i % 16)))))
    ∙ ap (λ (x : ℕ). get_or v (class_no k) 0 + x) (sym (mov-count nv op k r.0 r.1))
by_way (block n j) nv op r v l k =
    added-at 65536 (listed (on_sp n j) 16) v l k ∙ ap (λ (x : ℕ). get_or v (class_no k) 0 + 65536 * x) (listed-often k (on_sp n j) 16)
    ∙ ap (λ (x : ℕ). get_or v (class_no k) 0 + x) (sym (block-count op n j r.1.0 r.1.1 k) ∙ ap (λ (m : ℕ). with_op m op k) (sym r.0))
by_way (single n j) nv op r v l k =
    added-at 16 (n ∷ []) (added 1048560 (j ∷ []) v) (added-length 1048560 (j ∷ []) v ∙ l) k
    ∙ ap (λ (x : ℕ). x + 16 * (0 + one (is n k))) (added-at 1048560 (j ∷ []) v l k) ∙ together (get_or v (class_no k) 0) (one (is j k)) (one (is n k))
    ∙ ap (λ (x : ℕ). get_or v (class_no k) 0 + x) (sym (single-count op n j r.1.0 r.1.1 k) ∙ ap (λ (m : ℕ). with_op m op k) (sym r.0))
  where
    together : (a x y : ℕ) → a + 1048560 * (0 + x) + 16 * (0 + y) ≡ a + (1048560 * x + 16 * y)
    together a x y = omega arith

-- ---- the way of each op

unfoldable pub way_of : ℕ → ℕ → Way
way_of nv op =
    elim (eqb nv 0) [
      | true ↦ elim (eqb op 26) [
        | true ↦ mov
        | false ↦ elim (eqb op 27) [
          | true ↦ mov
          | false ↦ elim (eqb op 73) [
            | true ↦ single Pop Ldr
            | false ↦ elim (eqb op 82) [
              | true ↦ single Push Str
              | false ↦ elim (eqb op 139) [ true ↦ block Pop Ldm | false ↦ elim (eqb op 146) [ true ↦ block Push Stm | false ↦ kept ] ]
            ]
          ]
        ]
      ]
      | false ↦ kept
    ]

-- a test of the class at each choice of the deciding fields with op
unfoldable cells : (Class → Bool) → ℕ → ℕ → Bool
unfolding bits encodings undefineds fitting first_or fits class_no Diagram.cond Diagram.uncond
cells p nv op =
    let es = steps (nv ∷ bits 8 op) encodings in
    let us = steps (nv ∷ bits 8 op) undefineds in
    every 2 0 (λ odd. every 16 0 (λ low. p (cell es us odd low)))

cells_at : (p : Class → Bool) (nv op : ℕ) → T (cells p nv op) → (odd low : ℕ) → odd < 2 → low < 16 → T (p (encoding_at nv op odd low))
unfolding cells
cells_at p nv op t odd low o l =
    let at : ℕ → ℕ → Bool = λ odd low. p (cell (steps (nv ∷ bits 8 op) encodings) (steps (nv ∷ bits 8 op) undefineds) odd low) in
    let col = every-at 2 0 (λ odd. every 16 0 (at odd)) t odd (omega arith) (omega arith) in
    subst (λ (c : Class). T (p c)) (sym (narrowed-view nv op odd low)) (every-at 16 0 (at odd) col low (omega arith) (omega arith))

-- where the way is `kept`, no word with op can be renamed
abbrev sound : Way → ℕ → ℕ → Bool
sound kept nv op = cells (λ (c : Class). keeps c op) nv op
sound mov nv op = true
sound (block n j) nv op = true
sound (single n j) nv op = true

all_sound : T (every 2 0 (λ (nv : ℕ). every 256 0 (λ (op : ℕ). sound (way_of nv op) nv op)))
unfolding way_of cells
all_sound = tt

-- the words with one op are of one class, before the naming rules
all_of : (op : ℕ) (j : Class) → T (passes 0 op 1 anywhere j) → (odd low : ℕ) → odd < 2 → low < 16 → encoding_at 0 op odd low ≡ j
all_of op j t odd low o l = region 0 op 1 anywhere j t op odd low (omega arith, (omega arith, (o, (l, tt))))

right : (nv op : ℕ) → nv < 2 → op < 256 → Right (way_of nv op) nv op
unfolding way_of passes cells
right nv op v o = go (eqb nv 0) refl (eqb op 26) refl (eqb op 27) refl (eqb op 73) refl (eqb op 82) refl (eqb op 139) refl (eqb op 146) refl here
  where
    here : T (sound (way_of nv op) nv op)
    here = every-at 256 0 (λ (op : ℕ). sound (way_of nv op) nv op) (every-at 2 0 (λ (nv : ℕ). every 256 0 (λ (op : ℕ). sound (way_of nv op) nv op)) all_sound nv (omega arith) (omega arith)) op (omega arith) (omega arith)

    is-it : (x y : ℕ) → eqb x y ≡ true → x ≡ y
    is-it x y e = eqb→eq x y (subst (λ (b : Bool). T b) (sym e) tt)

    chosen : Bool → Bool → Bool → Bool → Bool → Bool → Bool → Way
    chosen z a b c d e f =
        elim z [
          | true ↦ elim a [
            | true ↦ mov
            | false ↦ elim b [
              | true ↦ mov
              | false ↦ elim c [
                | true ↦ single Pop Ldr
                | false ↦ elim d [
                  | true ↦ single Push Str
                  | false ↦ elim e [ true ↦ block Pop Ldm | false ↦ elim f [ true ↦ block Push Stm | false ↦ kept ] ]
                ]
              ]
            ]
          ]
          | false ↦ kept
        ]

    go : (z : Bool) → eqb nv 0 ≡ z → (a : Bool) → eqb op 26 ≡ a → (b : Bool) → eqb op 27 ≡ b → (c : Bool) → eqb op 73 ≡ c → (d : Bool) → eqb op 82 ≡ d → (e : Bool) → eqb op 139 ≡ e → (f : Bool) → eqb op 146 ≡ f → T (sound (chosen z a b c d e f) nv op) → Right (chosen z a b c d e f) nv op
    go true z true p b q c r d s e t f u h = rw (is-it nv 0 z, is-it op 26 p) (refl, cells_at (λ (c : Class). moves_alone c 26) 0 26 tt)
    go true z false p true q c r d s e t f u h = rw (is-it nv 0 z, is-it op 27 q) (refl, cells_at (λ (c : Class). moves_alone c 27) 0 27 tt)
    go true z false p false q true r d s e t f u h = rw (is-it nv 0 z, is-it op 73 r) (refl, (all_of 73 Ldr tt, ldr-name))
    go true z false p false q false r true s e t f u h = rw (is-it nv 0 z, is-it op 82 s) (refl, (all_of 82 Str tt, str-name))
    go true z false p false q false r false s true t f u h = rw (is-it nv 0 z, is-it op 139 t) (refl, (all_of 139 Ldm tt, ldm-name))
    go true z false p false q false r false s false t true u h = rw (is-it nv 0 z, is-it op 146 u) (refl, (all_of 146 Stm tt, stm-name))
    go true z false p false q false r false s false t false u h = cells_at (λ (c : Class). keeps c op) nv op h
    go false z a p b q c r d s e t f u h = cells_at (λ (c : Class). keeps c op) nv op h

-- ---- all words under one condition

-- the counts of the words with op below n
unfoldable pub counts_to : ℕ → ℕ → List ℕ
counts_to nv zero = replicate 74 0
counts_to nv (suc n) = added_by (way_of nv n) nv n (counts_to nv n)

counts-length : (nv n : ℕ) → length (counts_to nv n) ≡ 74
unfolding counts_to
counts-length nv zero = length-replicate {A = ℕ} 74 0
counts-length nv (suc n) = added-length-by (way_of nv n) nv n (counts_to nv n) ∙ counts-length nv n

pub counts-at : (nv n : ℕ) → nv < 2 → n ≤ 256 → (k : Class) → get_or (counts_to nv n) (class_no k) 0 ≡ sum n (λ (op : ℕ). with_op nv op k)
unfolding counts_to sum
counts-at nv zero v h k = get_or-replicate {A = ℕ} 74 (class_no k) 0 0 (class-below k)
counts-at nv (suc n) v h k =
    by_way (way_of nv n) nv n (right nv n v (omega arith)) (counts_to nv n) (counts-length nv n) k
    ∙ ap (λ (x : ℕ). x + with_op nv n k) (counts-at nv n v (omega arith) k)
