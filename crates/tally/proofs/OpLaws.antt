-- How many words of one class there are with given bits 27 to 20, which is op, under condition 1111 (nv = 1) or another (nv = 0).
use Rattle.base.proofs.Prelude.{◌∙◌, sym, refl, ◌≡◌, ap, subst, false, true, Bool, not, ℕ, ◌+◌, ◌<◌, ◌*◌, ◌/◌, ◌%◌, arith, eqb, T, eq-eqb}
use Rattle.base.proofs.Prelude.{ne_eqb}
use Rattle.classes.specs.declared.Class.{Class}
use Rattle.classes.specs.declared.Class.TheVariants.{Mov, Stm, Ldm, Str, Ldr, Push, Pop}
use Rattle.classes.specs.Class.{class_no, is}
use Rattle.encodings.specs.Deciding.{encoding_at}
use Rattle.std.proofs.lemmas.Bool.Decides.{nat_tests}
use Rattle.tally.specs.Counting.{one, how_many}
use Rattle.tally.proofs.CountLaws.{sum, same_tests, same-terms, in_two, by_parts, low_part, high_part, sum-scaled, all_pass}
use Rattle.tally.proofs.FieldLaws.{shifted, chosen, name_at, class_at}

-- the words of class k among those with op
unfoldable pub with_op : ℕ → ℕ → Class → ℕ
with_op nv op k = how_many (λ (t : ℕ). is (class_at nv op (t / 65536) (t / 4096 % 2) (t % 4096)) k) 1048576

-- ---- no rule renames a word with op

-- no rule that looks at rn or at bits 11 to 0 can rename a word of class k with op
abbrev pub keeps : Class → ℕ → Bool
keeps k op =
    elim (is k Mov) [
      | true ↦ eqb (op / 32 % 2) 1
      | false ↦ elim (is k Stm) [
        | true ↦ not (eqb (op % 32) 18)
        | false ↦ elim (is k Ldm) [
          | true ↦ not (eqb (op % 32) 11)
          | false ↦ elim (is k Str) [
            | true ↦ not (eqb op 82)
            | false ↦ elim (is k Ldr) [ true ↦ not (eqb op 73) | false ↦ true ]
          ]
        ]
      ]
    ]

unlike : (x y : ℕ) → T (not (eqb x y)) → x ≡ y → ⊥
unlike x y t e = subst (λ (b : Bool). T (not b)) (eq-eqb x y e) t

kept : (k : Class) (op rn y : ℕ) → rn < 16 → T (keeps k op) → name_at k op rn y ≡ k
unfolding chosen shifted class_no
kept k op rn y r t = grind (arith, nat_tests)

-- a word's fields below op, by parts
odd-of : (i u : ℕ) → u < 8192 → (i * 8192 + u) / 4096 % 2 ≡ u / 4096
odd-of i u l = omega arith

y_of : (i u : ℕ) → u < 8192 → (i * 8192 + u) % 4096 ≡ u % 4096
y_of i u l = omega arith

rn-below : (t : ℕ) → t < 1048576 → t / 65536 < 16
rn-below t l = omega arith

-- a test that looks at odd and at bits 7 to 4 alone
by-cells : (q : ℕ → ℕ → Bool) → how_many (λ (u : ℕ). q (u / 4096) (u % 4096 / 16 % 16)) 8192 ≡ 256 * how_many (λ (i : ℕ). q (i / 16) (i % 16)) 32
by-cells q =
    by_parts (λ (u : ℕ). q (u / 4096) (u % 4096 / 16 % 16)) 2 4096
    ∙ same-terms (λ (o : ℕ). how_many (λ (v : ℕ). q ((o * 4096 + v) / 4096) ((o * 4096 + v) % 4096 / 16 % 16)) 4096) (λ (o : ℕ). 256 * how_many (λ (j : ℕ). q ((o * 16 + j) / 16) ((o * 16 + j) % 16)) 16) 2 row
    ∙ sum-scaled (λ (o : ℕ). how_many (λ (j : ℕ). q ((o * 16 + j) / 16) ((o * 16 + j) % 16)) 16) 2 256
    ∙ ap (λ (x : ℕ). 256 * x) (sym (by_parts (λ (i : ℕ). q (i / 16) (i % 16)) 2 16))
  where
    same : (a b c d : ℕ) → a ≡ b → c ≡ d → q a c ≡ q b d
    same a b c d e f = rw (e, f)

    high : (o v : ℕ) → v < 4096 → (o * 4096 + v) / 4096 ≡ o
    high o v l = omega arith

    nibble : (o v : ℕ) → v < 4096 → (o * 4096 + v) % 4096 / 16 % 16 ≡ v / 16 % 16
    nibble o v l = omega arith

    over : (x j : ℕ) → j < 16 → (x * 16 + j) / 16 % 16 ≡ x % 16
    over x j l = omega arith

    under : (i j : ℕ) → j < 16 → (i * 16 + j) % 16 ≡ j
    under i j l = omega arith

    back : (o j : ℕ) → j < 16 → (o * 16 + j) / 16 ≡ o
    back o j l = omega arith

    scaled : (x : ℕ) → 16 * (16 * x) ≡ 256 * x
    scaled x = omega arith

    row : (o : ℕ) → o < 2 → how_many (λ (v : ℕ). q ((o * 4096 + v) / 4096) ((o * 4096 + v) % 4096 / 16 % 16)) 4096 ≡ 256 * how_many (λ (j : ℕ). q ((o * 16 + j) / 16) ((o * 16 + j) % 16)) 16
    row o h =
        same_tests (λ (v : ℕ). q ((o * 4096 + v) / 4096) ((o * 4096 + v) % 4096 / 16 % 16)) (λ (v : ℕ). q o (v / 16 % 16)) 4096 (λ v l. same ((o * 4096 + v) / 4096) o ((o * 4096 + v) % 4096 / 16 % 16) (v / 16 % 16) (high o v l) (nibble o v l))
        ∙ high_part (λ (x : ℕ). q o (x % 16)) (λ (v : ℕ). q o (v / 16 % 16)) 256 16 (λ x j l. ap (λ (z : ℕ). q o z) (over x j l))
        ∙ ap (λ (x : ℕ). 16 * x) (low_part (λ (j : ℕ). q ((o * 16 + j) / 16) ((o * 16 + j) % 16)) (λ (x : ℕ). q o (x % 16)) 16 16 (λ i j l. same o ((o * 16 + j) / 16) ((i * 16 + j) % 16) ((o * 16 + j) % 16) (sym (back o j l)) (under i j l ∙ sym (under o j l))))
        ∙ scaled (how_many (λ (j : ℕ). q ((o * 16 + j) / 16) ((o * 16 + j) % 16)) 16)

-- every word with op keeps the manual's name
abbrev pub Keeps : ℕ → ℕ → Type 0
Keeps nv op = (odd low : ℕ) → odd < 2 → low < 16 → T (keeps (encoding_at nv op odd low) op)

pub kept-count : (nv op : ℕ) (k : Class) → Keeps nv op → with_op nv op k ≡ 32768 * how_many (λ (i : ℕ). is (encoding_at nv op (i / 16) (i % 16)) k) 32
unfolding with_op
kept-count nv op k h =
    same_tests (λ (t : ℕ). is (class_at nv op (t / 65536) (t / 4096 % 2) (t % 4096)) k) (λ (t : ℕ). is (encoding_at nv op (t / 4096 % 2) (t % 4096 / 16 % 16)) k) 1048576 (λ t l. ap (λ (j : Class). is j k) (kept (encoding_at nv op (t / 4096 % 2) (t % 4096 / 16 % 16)) op (t / 65536) (t % 4096) (rn-below t l) (h (t / 4096 % 2) (t % 4096 / 16 % 16) (omega arith) (omega arith))))
    ∙ low_part (λ (u : ℕ). is (encoding_at nv op (u / 4096) (u % 4096 / 16 % 16)) k) (λ (t : ℕ). is (encoding_at nv op (t / 4096 % 2) (t % 4096 / 16 % 16)) k) 128 8192 (λ i u l. same (odd-of i u l) (y_of i u l))
    ∙ ap (λ (x : ℕ). 128 * x) (by-cells (λ (o l : ℕ). is (encoding_at nv op o l) k))
    ∙ scaled (how_many (λ (i : ℕ). is (encoding_at nv op (i / 16) (i % 16)) k) 32)
  where
    same : {a b c d : ℕ} → a ≡ b → c ≡ d → is (encoding_at nv op a (c / 16 % 16)) k ≡ is (encoding_at nv op b (d / 16 % 16)) k
    same e f = rw (e, f)

    scaled : (x : ℕ) → 128 * (256 * x) ≡ 32768 * x
    scaled x = omega arith

-- ---- MOV with a register

-- the name of a word of class k whose bits 11 to 4 are x, where no rule but MOV's can rename it
unfoldable pub moved : Class → ℕ → Class
moved k x = elim (is k Mov) [ true ↦ shifted false (eqb (x % 2) 1) (x / 2 % 4) (x / 8) | false ↦ k ]

abbrev pub moves_alone : Class → ℕ → Bool
moves_alone k op = elim (is k Mov) [ true ↦ true | false ↦ keeps k op ]

chosen-mov : (k m : Class) (nine twelve y : ℕ) → is k Mov ≡ true → chosen k m nine twelve y ≡ m
unfolding chosen
chosen-mov k m nine twelve y e = rw (e, chosen)

moved-name : (k : Class) (op rn y : ℕ) → op / 32 % 2 ≡ 0 → rn < 16 → T (moves_alone k op) → name_at k op rn y ≡ moved k (y / 16)
unfolding chosen moved
moved-name k op rn y z r t = go (is k Mov) refl t
  where
    kind : y / 32 % 4 ≡ y / 16 / 2 % 4
    kind = omega arith

    amount : y / 128 ≡ y / 16 / 8
    amount = omega arith

    go : (b : Bool) → is k Mov ≡ b → T (elim b as (λ _. Bool) [ true ↦ true | false ↦ keeps k op ]) → name_at k op rn y ≡ elim b as (λ _. Class) [ true ↦ shifted false (eqb (y / 16 % 2) 1) (y / 16 / 2 % 4) (y / 16 / 8) | false ↦ k ]
    go true p u =
        chosen-mov k (shifted (eqb (op / 32 % 2) 1) (eqb (y / 16 % 2) 1) (y / 32 % 4) (y / 128)) (op % 32 * 16 + rn) (op * 16 + rn) y p
        ∙ ap (λ (b : Bool). shifted b (eqb (y / 16 % 2) 1) (y / 32 % 4) (y / 128)) (ne_eqb (op / 32 % 2) 1 (λ e. omega arith))
        ∙ ap (λ (i : ℕ). shifted false (eqb (y / 16 % 2) 1) i (y / 128)) kind ∙ ap (λ (i : ℕ). shifted false (eqb (y / 16 % 2) 1) (y / 16 / 2 % 4) i) amount
    go false p u = kept k op rn y r u

pub mov-count : (nv op : ℕ) (k : Class) → op / 32 % 2 ≡ 0 → ((odd low : ℕ) → odd < 2 → low < 16 → T (moves_alone (encoding_at nv op odd low) op)) → with_op nv op k ≡ 2048 * how_many (λ (i : ℕ). is (moved (encoding_at nv op (i / 256) (i % 16)) (i % 256)) k) 512
unfolding with_op
mov-count nv op k z h =
    same_tests (λ (t : ℕ). is (class_at nv op (t / 65536) (t / 4096 % 2) (t % 4096)) k) (λ (t : ℕ). is (moved (encoding_at nv op (t / 4096 % 2) (t % 4096 / 16 % 16)) (t % 4096 / 16)) k) 1048576 (λ t l. ap (λ (j : Class). is j k) (moved-name (encoding_at nv op (t / 4096 % 2) (t % 4096 / 16 % 16)) op (t / 65536) (t % 4096) z (rn-below t l) (h (t / 4096 % 2) (t % 4096 / 16 % 16) (omega arith) (omega arith))))
    ∙ low_part (λ (u : ℕ). is (moved (encoding_at nv op (u / 4096) (u % 4096 / 16 % 16)) (u % 4096 / 16)) k) (λ (t : ℕ). is (moved (encoding_at nv op (t / 4096 % 2) (t % 4096 / 16 % 16)) (t % 4096 / 16)) k) 128 8192 (λ i u l. first (odd-of i u l) (y_of i u l))
    ∙ ap (λ (x : ℕ). 128 * x) (high_part (λ (i : ℕ). is (moved (encoding_at nv op (i / 256) (i % 16)) (i % 256)) k) (λ (u : ℕ). is (moved (encoding_at nv op (u / 4096) (u % 4096 / 16 % 16)) (u % 4096 / 16)) k) 512 16 (λ i j l. second (over i j l) (nibble i j l) (eight i j l)))
    ∙ scaled (how_many (λ (i : ℕ). is (moved (encoding_at nv op (i / 256) (i % 16)) (i % 256)) k) 512)
  where
    first : {a b c d : ℕ} → a ≡ b → c ≡ d → is (moved (encoding_at nv op a (c / 16 % 16)) (c / 16)) k ≡ is (moved (encoding_at nv op b (d / 16 % 16)) (d / 16)) k
    first e f = rw (e, f)

    second : {a b c d e f : ℕ} → a ≡ b → c ≡ d → e ≡ f → is (moved (encoding_at nv op a c) e) k ≡ is (moved (encoding_at nv op b d) f) k
    second p q r = rw (p, q, r)

    over : (i j : ℕ) → j < 16 → (i * 16 + j) / 4096 ≡ i / 256
    over i j l = omega arith

    nibble : (i j : ℕ) → j < 16 → (i * 16 + j) % 4096 / 16 % 16 ≡ i % 16
    nibble i j l = omega arith

    eight : (i j : ℕ) → j < 16 → (i * 16 + j) % 4096 / 16 ≡ i % 256
    eight i j l = omega arith

    scaled : (x : ℕ) → 128 * (16 * x) ≡ 2048 * x
    scaled x = omega arith

-- ---- block transfers and single transfers on SP

-- a class that rn alone settles
by-rn : (g : ℕ → Class) (nv op : ℕ) (k : Class) → ((t : ℕ) → t < 1048576 → class_at nv op (t / 65536) (t / 4096 % 2) (t % 4096) ≡ g (t / 65536)) → with_op nv op k ≡ 65536 * how_many (λ (rn : ℕ). is (g rn) k) 16
unfolding with_op
by-rn g nv op k h =
    same_tests (λ (t : ℕ). is (class_at nv op (t / 65536) (t / 4096 % 2) (t % 4096)) k) (λ (t : ℕ). is (g (t / 65536)) k) 1048576 (λ t l. ap (λ (j : Class). is j k) (h t l))
    ∙ high_part (λ (rn : ℕ). is (g rn) k) (λ (t : ℕ). is (g (t / 65536)) k) 16 65536 (λ i j l. ap (λ (x : ℕ). is (g x) k) (over i j l))
  where
    over : (i j : ℕ) → j < 65536 → (i * 65536 + j) / 65536 ≡ i
    over i j l = omega arith

-- one register is SP
abbrev pub on_sp : Class → Class → ℕ → Class
on_sp n k rn = elim (eqb rn 13) [ true ↦ n | false ↦ k ]

shift-test : (a x b : ℕ) → eqb (a + x) (a + b) ≡ eqb x b
shift-test a x b = grind (arith, nat_tests)

pub stm-name : (rn y : ℕ) → name_at Stm 146 rn y ≡ on_sp Push Stm rn
unfolding chosen class_no
stm-name rn y = ap (λ (b : Bool). elim b as (λ _. Class) [ true ↦ Push | false ↦ Stm ]) (shift-test 288 rn 13)

pub ldm-name : (rn y : ℕ) → name_at Ldm 139 rn y ≡ on_sp Pop Ldm rn
unfolding chosen class_no
ldm-name rn y = ap (λ (b : Bool). elim b as (λ _. Class) [ true ↦ Pop | false ↦ Ldm ]) (shift-test 176 rn 13)

pub str-name : (rn y : ℕ) → name_at Str 82 rn y ≡ on_sp (elim (eqb y 4) as (λ _. Class) [ true ↦ Push | false ↦ Str ]) Str rn
unfolding chosen class_no
str-name rn y = ap (λ (b : Bool). elim b as (λ _. Class) [ true ↦ elim (eqb y 4) as (λ _. Class) [ true ↦ Push | false ↦ Str ] | false ↦ Str ]) (shift-test 1312 rn 13)

pub ldr-name : (rn y : ℕ) → name_at Ldr 73 rn y ≡ on_sp (elim (eqb y 4) as (λ _. Class) [ true ↦ Pop | false ↦ Ldr ]) Ldr rn
unfolding chosen class_no
ldr-name rn y = ap (λ (b : Bool). elim b as (λ _. Class) [ true ↦ elim (eqb y 4) as (λ _. Class) [ true ↦ Pop | false ↦ Ldr ] | false ↦ Ldr ]) (shift-test 1168 rn 13)

pub block-count : (op : ℕ) (n j : Class) → ((odd low : ℕ) → odd < 2 → low < 16 → encoding_at 0 op odd low ≡ j) → ((rn y : ℕ) → name_at j op rn y ≡ on_sp n j rn) → (k : Class) → with_op 0 op k ≡ 65536 * how_many (λ (rn : ℕ). is (on_sp n j rn) k) 16
block-count op n j h m k =
    by-rn (on_sp n j) 0 op k (λ t l. ap (λ (c : Class). name_at c op (t / 65536) (t % 4096)) (h (t / 4096 % 2) (t % 4096 / 16 % 16) (omega arith) (omega arith)) ∙ m (t / 65536) (t % 4096))

-- of the numbers below a + 1 + b one, a, has class n, the others class j
one_apart : (n j k : Class) (a b : ℕ) → how_many (λ (y : ℕ). is (elim (eqb y a) as (λ _. Class) [ true ↦ n | false ↦ j ]) k) (a + (1 + b)) ≡ (a + b) * one (is j k) + one (is n k)
one_apart n j k a b =
    in_two p a (1 + b)
    ∙ ap (λ (x : ℕ). x + how_many (λ (y : ℕ). p (a + y)) (1 + b)) (same_tests p (λ _. is j k) a (λ y l. below y (λ (e : y ≡ a). omega arith)) ∙ all_pass (is j k) a)
    ∙ ap (λ (x : ℕ). a * one (is j k) + x) (in_two (λ (y : ℕ). p (a + y)) 1 b ∙ ap (λ (x : ℕ). x + how_many (λ (y : ℕ). p (a + (1 + y))) b) (same_tests (λ (y : ℕ). p (a + y)) (λ _. is n k) 1 (λ y l. at (a + y) (omega arith)) ∙ all_pass (is n k) 1) ∙ ap (λ (x : ℕ). 1 * one (is n k) + x) (same_tests (λ (y : ℕ). p (a + (1 + y))) (λ _. is j k) b (λ y l. below (a + (1 + y)) (λ (e : a + (1 + y) ≡ a). omega arith)) ∙ all_pass (is j k) b))
    ∙ together (one (is j k)) (one (is n k))
  where
    p : ℕ → Bool
    p y = is (elim (eqb y a) as (λ _. Class) [ true ↦ n | false ↦ j ]) k

    below : (y : ℕ) → (y ≡ a → ⊥) → p y ≡ is j k
    below y h = ap (λ (b : Bool). is (elim b as (λ _. Class) [ true ↦ n | false ↦ j ]) k) (ne_eqb y a h)

    at : (y : ℕ) → y ≡ a → p y ≡ is n k
    at y h = ap (λ (b : Bool). is (elim b as (λ _. Class) [ true ↦ n | false ↦ j ]) k) (eq-eqb y a h)

    together : (x y : ℕ) → a * x + (1 * y + b * x) ≡ (a + b) * x + y
    together x y = omega arith

pub single-count : (op : ℕ) (n j : Class) → ((odd low : ℕ) → odd < 2 → low < 16 → encoding_at 0 op odd low ≡ j) → ((rn y : ℕ) → name_at j op rn y ≡ on_sp (elim (eqb y 4) as (λ _. Class) [ true ↦ n | false ↦ j ]) j rn) → (k : Class) → with_op 0 op k ≡ 1048560 * one (is j k) + 16 * one (is n k)
unfolding with_op sum
single-count op n j h m k =
    same_tests (λ (t : ℕ). is (class_at 0 op (t / 65536) (t / 4096 % 2) (t % 4096)) k) q 1048576 (λ t l. ap (λ (c : Class). is c k) (ap (λ (c : Class). name_at c op (t / 65536) (t % 4096)) (h (t / 4096 % 2) (t % 4096 / 16 % 16) (omega arith) (omega arith)) ∙ m (t / 65536) (t % 4096)))
    ∙ by_parts q 16 65536 ∙ same-terms (λ (rn : ℕ). how_many (λ (r : ℕ). q (rn * 65536 + r)) 65536) (λ (rn : ℕ). 16 * share (eqb rn 13)) 16 term
    ∙ added (one (is j k)) (one (is n k))
  where
    class : ℕ → Class
    class y = elim (eqb y 4) as (λ _. Class) [ true ↦ n | false ↦ j ]

    q : ℕ → Bool
    q t = is (on_sp (class (t % 4096)) j (t / 65536)) k

    share : Bool → ℕ
    share b = elim b [ true ↦ 4095 * one (is j k) + one (is n k) | false ↦ 4096 * one (is j k) ]

    high : (rn r : ℕ) → r < 65536 → (rn * 65536 + r) / 65536 ≡ rn
    high rn r l = omega arith

    low : (rn r : ℕ) → (rn * 65536 + r) % 4096 ≡ r % 4096
    low rn r = omega arith

    under : (i y : ℕ) → y < 4096 → (i * 4096 + y) % 4096 ≡ y
    under i y l = omega arith

    same : {a b c d : ℕ} → a ≡ b → c ≡ d → is (on_sp (class a) j c) k ≡ is (on_sp (class b) j d) k
    same e f = rw (e, f)

    shared : (b : Bool) → how_many (λ (y : ℕ). is (elim b as (λ _. Class) [ true ↦ class y | false ↦ j ]) k) 4096 ≡ share b
    shared true = one_apart n j k 4 4091
    shared false = all_pass (is j k) 4096

    term : (rn : ℕ) → rn < 16 → how_many (λ (r : ℕ). q (rn * 65536 + r)) 65536 ≡ 16 * share (eqb rn 13)
    term rn l =
        same_tests (λ (r : ℕ). q (rn * 65536 + r)) (λ (r : ℕ). is (on_sp (class (r % 4096)) j rn) k) 65536 (λ r u. same (low rn r) (high rn r u))
        ∙ low_part (λ (y : ℕ). is (on_sp (class y) j rn) k) (λ (r : ℕ). is (on_sp (class (r % 4096)) j rn) k) 16 4096 (λ i y u. ap (λ (x : ℕ). is (on_sp (class x) j rn) k) (under i y u))
        ∙ ap (λ (x : ℕ). 16 * x) (shared (eqb rn 13))

    added : (x y : ℕ) → sum 16 (λ (rn : ℕ). 16 * elim (eqb rn 13) as (λ _. ℕ) [ true ↦ 4095 * x + y | false ↦ 4096 * x ]) ≡ 1048560 * x + 16 * y
    added x y = omega arith
