-- Each number of the census is the count that it stands for, and all of them add up to the 2^32 words.
use Rattle.base.proofs.Prelude.{◌∙◌, sym, refl, ◌≡◌, ap, subst, false, true, Bool, not, List, [], ◌∷◌, ℕ, ◌+◌, ◌<◌, suc, ◌*◌, zero, ◌^◌, ◌/◌, ◌%◌}
use Rattle.base.proofs.Prelude.{arith, eqb, T, eqb→eq, length, get_or, eq-eqb}
use Rattle.classes.specs.declared.Class.{Class}
use Rattle.classes.specs.Class.{class_no, is}
use Rattle.classes.specs.declared.Class.TheVariants.{Illegal}
use Rattle.classes.specs.declared.Cond.TheVariants.{Nv}
use Rattle.classes.specs.Cond.{conds, cond_no}
use Rattle.classes.proofs.Numbers.{same_number, class-below}
use Rattle.encodings.specs.Diagram
use Rattle.encodings.specs.Diagram.{bits, fits, fitting, first_or, unconditional}
use Rattle.encodings.specs.Encodings.{encodings, undefineds}
use Rattle.modes.specs.Operands.{shift_of, zero_shift_of, zero_amount_of}
use Rattle.arm.specs.Ins.{is_conditional}
use Rattle.arm.specs.Naming.{shift_name, class_of}
use Rattle.encodings.proofs.Sweep.{and, and_left, and_right}
use Rattle.tally.specs.Census.{Entry, entry, census, entry_of, Counted, total}
use Rattle.tally.specs.Counting.{one, how_many, unconditional_words, conditional_words}
use Rattle.base.specs.Choice.{both}
use Rattle.tally.proofs.CountLaws.{sum, same_tests, same-terms, by_parts, all_pass}
use Rattle.tally.proofs.FieldLaws.{shifted, class_at, class-fields}
use Rattle.tally.proofs.OpLaws.{with_op, moved}
use Rattle.tally.proofs.WayLaws.{added_by, way_of, counts_to, counts-at}
use Rattle.tally.proofs.TallyLaws.{listed, added}

-- ---- one condition after the other

-- 1 for the condition 1111
abbrev nv_of : ℕ → ℕ
nv_of c = elim (eqb c 15) [ true ↦ 1 | false ↦ 0 ]

word-class : (c op t : ℕ) → op < 256 → t < 1048576 → class_of (c * 268435456 + (op * 1048576 + t)) ≡ class_at (unconditional (c * 268435456 + (op * 1048576 + t))) op (t / 65536) (t / 4096 % 2) (t % 4096)
word-class c op t o l = class-fields (c * 268435456 + (op * 1048576 + t)) ∙ rw (op-of c op t o l, rn-of c op t o l, odd-of c op t, y_of c op t)
  where
    op-of : (c op t : ℕ) → op < 256 → t < 1048576 → (c * 268435456 + (op * 1048576 + t)) / 1048576 % 256 ≡ op
    op-of c op t o l = omega arith

    rn-of : (c op t : ℕ) → op < 256 → t < 1048576 → (c * 268435456 + (op * 1048576 + t)) / 65536 % 16 ≡ t / 65536
    rn-of c op t o l = omega arith

    odd-of : (c op t : ℕ) → (c * 268435456 + (op * 1048576 + t)) / 4096 % 2 ≡ t / 4096 % 2
    odd-of c op t = omega arith

    y_of : (c op t : ℕ) → (c * 268435456 + (op * 1048576 + t)) % 4096 ≡ t % 4096
    y_of c op t = omega arith

nv-of : (c v : ℕ) → v < 268435456 → unconditional (c * 268435456 + v) ≡ nv_of c
unfolding unconditional
nv-of c v l = let high : (c * 268435456 + v) / 268435456 ≡ c = omega arith in ap nv_of high

-- the words of class k under condition c
under : (c : ℕ) (k : Class) → how_many (λ (v : ℕ). is (class_of (c * 268435456 + v)) k) 268435456 ≡ sum 256 (λ (op : ℕ). with_op (nv_of c) op k)
unfolding with_op
under c k =
    by_parts (λ (v : ℕ). is (class_of (c * 268435456 + v)) k) 256 1048576
    ∙ same-terms (λ (op : ℕ). how_many (λ (t : ℕ). is (class_of (c * 268435456 + (op * 1048576 + t))) k) 1048576) (λ (op : ℕ). with_op (nv_of c) op k) 256 (λ op o. same_tests (λ (t : ℕ). is (class_of (c * 268435456 + (op * 1048576 + t))) k) (λ (t : ℕ). is (class_at (nv_of c) op (t / 65536) (t / 4096 % 2) (t % 4096)) k) 1048576 (λ t l. ap (λ (j : Class). is j k) (word-class c op t o l ∙ ap (λ (nv : ℕ). class_at nv op (t / 65536) (t / 4096 % 2) (t % 4096)) (nv-of c (op * 1048576 + t) (omega arith)))))

-- the words of class k under the conditions that pass a test
under_all : (f : ℕ → Bool) (k : Class) → how_many (λ (w : ℕ). both (f (w / 268435456)) (is (class_of w) k)) (16 * 268435456) ≡ sum 16 (λ (c : ℕ). one (f c) * sum 256 (λ (op : ℕ). with_op (nv_of c) op k))
under_all f k =
    by_parts (λ (w : ℕ). both (f (w / 268435456)) (is (class_of w) k)) 16 268435456
    ∙ same-terms (λ (c : ℕ). how_many (λ (v : ℕ). both (f ((c * 268435456 + v) / 268435456)) (is (class_of (c * 268435456 + v)) k)) 268435456) (λ (c : ℕ). one (f c) * sum 256 (λ (op : ℕ). with_op (nv_of c) op k)) 16 (λ c l. same_tests (λ (v : ℕ). both (f ((c * 268435456 + v) / 268435456)) (is (class_of (c * 268435456 + v)) k)) (λ (v : ℕ). both (f c) (is (class_of (c * 268435456 + v)) k)) 268435456 (λ v h. ap (λ (x : ℕ). both (f x) (is (class_of (c * 268435456 + v)) k)) (high c v h)) ∙ tested c (f c))
  where
    high : (c v : ℕ) → v < 268435456 → (c * 268435456 + v) / 268435456 ≡ c
    high c v l = omega arith

    tested : (c : ℕ) (b : Bool) → how_many (λ (v : ℕ). both b (is (class_of (c * 268435456 + v)) k)) 268435456 ≡ one b * sum 256 (λ (op : ℕ). with_op (nv_of c) op k)
    tested c true = under c k ∙ omega arith
    tested c false = all_pass false 268435456 ∙ omega arith

-- the words of class k under one condition: 1111, or another
abbrev each : ℕ → Class → ℕ
each nv k = sum 256 (λ (op : ℕ). with_op nv op k)

by_condition : (f : ℕ → Bool) (k : Class) → sum 16 (λ (c : ℕ). one (f c) * sum 256 (λ (op : ℕ). with_op (nv_of c) op k)) ≡ sum 16 (λ (c : ℕ). one (f c) * elim (eqb c 15) as (λ _. ℕ) [ true ↦ each 1 k | false ↦ each 0 k ])
by_condition f k =
    same-terms (λ (c : ℕ). one (f c) * sum 256 (λ (op : ℕ). with_op (nv_of c) op k)) (λ (c : ℕ). one (f c) * elim (eqb c 15) as (λ _. ℕ) [ true ↦ each 1 k | false ↦ each 0 k ]) 16 (λ c l. ap (λ (x : ℕ). one (f c) * x) (go (eqb c 15)))
  where
    go : (b : Bool) → sum 256 (λ (op : ℕ). with_op (elim b as (λ _. ℕ) [ true ↦ 1 | false ↦ 0 ]) op k) ≡ elim b as (λ _. ℕ) [ true ↦ each 1 k | false ↦ each 0 k ]
    go true = refl
    go false = refl

-- 1110 and 1111; and the fourteen others
abbrev is_other : ℕ → Bool
is_other c = is_conditional (get_or conds c Nv)

two-conditions : (x y : ℕ) → sum 16 (λ (c : ℕ). one (not (is_other c)) * elim (eqb c 15) as (λ _. ℕ) [ true ↦ y | false ↦ x ]) ≡ x + y
unfolding sum cond_no
two-conditions x y = omega arith

fourteen-conditions : (x y : ℕ) → sum 16 (λ (c : ℕ). one (is_other c) * elim (eqb c 15) as (λ _. ℕ) [ true ↦ y | false ↦ x ]) ≡ 14 * x
unfolding sum cond_no
fourteen-conditions x y = omega arith

unconditional-words : (k : Class) → unconditional_words k ≡ each 0 k + each 1 k
unfolding unconditional_words
unconditional-words k =
    under_all (λ (c : ℕ). not (is_other c)) k ∙ by_condition (λ (c : ℕ). not (is_other c)) k ∙ two-conditions (each 0 k) (each 1 k)

conditional-words : (k : Class) → conditional_words k ≡ 14 * each 0 k
unfolding conditional_words
conditional-words k = under_all is_other k ∙ by_condition is_other k ∙ fourteen-conditions (each 0 k) (each 1 k)

-- ---- the census

-- the entries from number i on agree with the counts under a condition other than 1111, and under 1111
abbrev agree : ℕ → List Entry → List ℕ → List ℕ → Bool
agree i [] xs ys = true
agree i (e ∷ es) [] ys = false
agree i (e ∷ es) (a ∷ xs) [] = false
agree i (e ∷ es) (a ∷ xs) (b ∷ ys) = and (eqb (class_no e.class) i) (and (eqb e.unconditional (a + b)) (and (eqb e.conditional (14 * a)) (agree (suc i) es xs ys)))

record Agrees (e : Entry) (i a b : ℕ) : Type 0 where
  class : class_no e.class ≡ i
  unconditionals : e.unconditional ≡ a + b
  conditionals : e.conditional ≡ 14 * a

agrees : (i : ℕ) (es : List Entry) (xs ys : List ℕ) → T (agree i es xs ys) → (n : ℕ) → n < length es → (d : Entry) → Agrees (get_or es n d) (i + n) (get_or xs n 0) (get_or ys n 0)
agrees i [] xs ys t n l d = absurd (omega arith)
agrees i (e ∷ es) [] ys t n l d = absurd t
agrees i (e ∷ es) (a ∷ xs) [] t n l d = absurd t
agrees i (e ∷ es) (a ∷ xs) (b ∷ ys) t zero l d =
    let u = and_right (eqb (class_no e.class) i) _ t in
    let v = and_right (eqb e.unconditional (a + b)) _ u in
    record {
      class = eqb→eq (class_no e.class) i (and_left (eqb (class_no e.class) i) _ t) ∙ omega arith;
      unconditionals = eqb→eq e.unconditional (a + b) (and_left (eqb e.unconditional (a + b)) _ u);
      conditionals = eqb→eq e.conditional (14 * a) (and_left (eqb e.conditional (14 * a)) _ v);
    }
agrees i (e ∷ es) (a ∷ xs) (b ∷ ys) t (suc n) l d =
    let u = and_right (eqb (class_no e.class) i) _ t in
    let v = and_right (eqb e.unconditional (a + b)) _ u in
    let w = and_right (eqb e.conditional (14 * a)) _ v in
    let at : i + suc n ≡ suc i + n = omega arith in
    subst (λ (m : ℕ). Agrees (get_or es n d) m (get_or xs n 0) (get_or ys n 0)) (sym at) (agrees (suc i) es xs ys w n (omega arith) d)

census-agrees : T (agree 0 census (counts_to 0 256) (counts_to 1 256))
unfolding census class_no counts_to added_by way_of added listed moved shifted shift_name shift_of zero_shift_of zero_amount_of bits encodings undefineds fitting first_or fits Diagram.cond Diagram.uncond
census-agrees = tt

pub census-length : length census ≡ 74
unfolding census
census-length = refl

eq-true : (x y : ℕ) → x ≡ y → T (eqb x y)
eq-true x y e = subst (λ (b : Bool). T b) (sym (eq-eqb x y e)) tt

-- Each entry of the census is its class's.
pub counted : (k : Class) → Counted k (entry_of k)
counted k =
    let a = agrees 0 census (counts_to 0 256) (counts_to 1 256) census-agrees (class_no k) (subst (λ (n : ℕ). class_no k < n) (sym census-length) (class-below k)) (entry Illegal 0 0) in
    let x : get_or (counts_to 0 256) (class_no k) 0 ≡ each 0 k = counts-at 0 256 (omega arith) (omega arith) k in
    let y : get_or (counts_to 1 256) (class_no k) 0 ≡ each 1 k = counts-at 1 256 (omega arith) (omega arith) k in
    record {
      named = same_number (entry_of k).class k (eq-true (class_no (entry_of k).class) (class_no k) (a.class ∙ zero_more));
      unconditionals = a.unconditionals ∙ ap (λ (z : ℕ). z + get_or (counts_to 1 256) (class_no k) 0) x ∙ ap (λ (z : ℕ). each 0 k + z) y ∙ sym (unconditional-words k);
      conditionals = a.conditionals ∙ ap (λ (z : ℕ). 14 * z) x ∙ sym (conditional-words k);
    }
  where
    zero_more : 0 + class_no k ≡ class_no k
    zero_more = omega arith

-- All entries together are the 2^32 words.
pub whole : total census ≡ 2 ^ 32
unfolding total census
whole = refl
