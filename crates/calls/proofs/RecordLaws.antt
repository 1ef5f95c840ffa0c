-- The numbers of records as a list of rows: its first rows, the test that it holds a map, and what the code asks of the records.
-- Assumes nothing.
use Rattle.base.proofs.Prelude.{◌∙◌, sym, refl, ◌≡◌, ap, false, true, Bool, List, [], ◌∷◌, ◌++◌, map, ◌≤◌, ℕ, ◌<◌, suc, ◌*◌, zero, arith}
use Rattle.base.proofs.Prelude.{le_of_suc-le-suc, not-suc-le-zero, eqb, leb, length, drop, take, replicate, length-take-le}
use Rattle.base.proofs.Prelude.{le-leb, lt-leb, leb-true, leb-false}
use lib.Seq.{drop-nil}
use Rattle.std.specs.Prelude.{◌&&◌}
use Rattle.std.specs.List.{list_all}
use Rattle.base.specs.Choice.{both}
use Rattle.base.proofs.ChoiceLaws.{both_first}
use Rattle.context.specs.Context.{call_row}
use Rattle.rows.specs.Order.{ascending, zeros}
use Rattle.rows.specs.Map.{key_of, flat, map_in, in_order, Held}
use Rattle.rows.proofs.MapLaws.{held-in-order, held-cleared}
use Rattle.calls.specs.declared.Call.{Call}
use Rattle.calls.specs.Records.{row_of, numbers_of, rows_in, is_none, none}

pub numbers-length : (calls : List Call) → length (numbers_of calls) ≡ length calls * call_row
unfolding flat
numbers-length [] = refl
numbers-length (c ∷ cs) = omega (arith, numbers-length cs)

numbers-append : (xs ys : List Call) → numbers_of (xs ++ ys) ≡ numbers_of xs ++ numbers_of ys
unfolding flat
numbers-append [] ys = refl
numbers-append (c ∷ cs) ys = ap (λ r. c.address ∷ c.word ∷ c.destination ∷ c.mode ∷ r) (numbers-append cs ys)

-- the first rows, and the others
pub first-rows : (n : ℕ) (calls : List Call) → n ≤ length calls → map_in call_row n (numbers_of calls) ≡ map row_of (take n calls)
unfolding map_in flat
first-rows zero calls h = refl
first-rows (suc n) [] h = absurd (not-suc-le-zero h)
first-rows (suc n) (c ∷ cs) h = ap (λ r. row_of c ∷ r) (first-rows n cs (le_of_suc-le-suc h))

rows_behind : (n : ℕ) (calls : List Call) → drop (n * call_row) (numbers_of calls) ≡ numbers_of (drop n calls)
unfolding flat
rows_behind zero calls = refl
rows_behind (suc n) [] = drop-nil (suc n * call_row)
rows_behind (suc n) (c ∷ cs) = let e : suc n * call_row ≡ suc (suc (suc (suc (n * call_row)))) = omega arith in rw e (rows_behind n cs)

pub map-take : (n : ℕ) (calls : List Call) → map row_of (take n calls) ≡ rows_in n calls
map-take zero cs = refl
map-take (suc n) [] = refl
map-take (suc n) (c ∷ cs) = ap (λ r. row_of c ∷ r) (map-take n cs)

pub map-drop : (n : ℕ) (calls : List Call) → drop n (map row_of calls) ≡ map row_of (drop n calls)
map-drop zero cs = refl
map-drop (suc n) [] = refl
map-drop (suc n) (c ∷ cs) = map-drop n cs

-- ---- the test that the records hold a map

-- the calls ascend, and zeros follow them
abbrev pub follows : ℕ → List Call → Bool
follows n calls = both (ascending (map key_of (map row_of (take n calls)))) (zeros (numbers_of (drop n calls)))

pub order_is : (n : ℕ) (calls : List Call) → in_order call_row n (numbers_of calls) ≡ both (leb n (length calls)) (follows n calls)
unfolding in_order
order_is n calls = step (leb n (length calls)) refl
  where
    many : length (numbers_of calls) ≡ length calls * call_row
    many = numbers-length calls

    step : (b : Bool) → leb n (length calls) ≡ b
        → both (leb (n * call_row) (length (numbers_of calls)))
        (both (ascending (map key_of (map_in call_row n (numbers_of calls)))) (zeros (drop (n * call_row) (numbers_of calls))))
        ≡ both b (follows n calls)
    step true e =
        let fits : n ≤ length calls = leb-true _ _ e in
        rw (le-leb (n * call_row) (length (numbers_of calls)) (omega (arith, many, fits)), first-rows n calls fits, rows_behind n calls)
    step false e =
        let less = leb-false n (length calls) e in
        rw (lt-leb (n * call_row) (length (numbers_of calls)) (omega (arith, many, less)))

-- the same, where there is room for the count, and where there is none
pub order-parts : (n : ℕ) (calls : List Call) → n ≤ length calls → follows n calls ≡ in_order call_row n (numbers_of calls)
order-parts n calls h = rw (order_is n calls, le-leb n (length calls) h)

pub order-short : (n : ℕ) (calls : List Call) → length calls < n → false ≡ in_order call_row n (numbers_of calls)
order-short n calls h = rw (order_is n calls, lt-leb n (length calls) h)

-- a list that holds a map has room for its count, and the map is the first rows
pub held-room : {n : ℕ} (calls : List Call) → Held call_row n (numbers_of calls) → n ≤ length calls
held-room {n} calls h = leb-true n (length calls) (both_first _ _ (sym (order_is n calls) ∙ held-in-order h))

pub held-front : {n : ℕ} (calls : List Call) → Held call_row n (numbers_of calls) → n ≡ length (take n calls)
held-front {n} calls h = sym (length-take-le n calls (held-room calls h))

-- what the code's ranges ask
pub ruleset places = (held-room, held-front)

pub held-rows : {n : ℕ} (calls : List Call) → Held call_row n (numbers_of calls) → map_in call_row n (numbers_of calls) ≡ map row_of (take n calls)
held-rows {n} calls h = first-rows n calls (held-room calls h)

-- ---- no calls

four : (p q r s t : Bool) → both p (both q (both r (both s t))) ≡ both (p && q && r && s) t
four true true true s t = refl
four true true false s t = refl
four true false r s t = refl
four false q r s t = refl

pub zeros-more : (c : Call) (cs : List Call) → zeros (numbers_of (c ∷ cs)) ≡ both (is_none c) (zeros (numbers_of cs))
unfolding flat zeros
zeros-more c cs = four (eqb c.address 0) (eqb c.word 0) (eqb c.destination 0) (eqb c.mode 0) (zeros (numbers_of cs))

pub zeros-all : (cs : List Call) → list_all is_none cs ≡ zeros (numbers_of cs)
unfolding flat zeros
zeros-all [] = refl
zeros-all (c ∷ cs) = rw (zeros-all cs) (also (is_none c) (zeros (numbers_of cs)) ∙ sym (zeros-more c cs))
  where
    also : (p q : Bool) → (p && q) ≡ both p q
    also true q = refl
    also false q = refl

pub zeros-none : (n : ℕ) → numbers_of (replicate n none) ≡ replicate (n * call_row) 0
unfolding flat
zeros-none zero = refl
zeros-none (suc n) =
    let e : suc n * call_row ≡ suc (suc (suc (suc (n * call_row)))) = omega arith in
    rw e (ap (λ r. 0 ∷ 0 ∷ 0 ∷ 0 ∷ r) (zeros-none n))

-- no calls in every place are zeros
pub zeroed : (calls : List Call) → numbers_of (replicate (length calls) none) ≡ replicate (length (numbers_of calls)) 0
zeroed calls = rw (numbers-length calls) (zeros-none (length calls))

-- no calls in place of a map's leave zeros
pub cleared : {n : ℕ} (calls : List Call) → Held call_row n (numbers_of calls)
    → numbers_of (replicate n none ++ drop n calls) ≡ replicate (length (numbers_of calls)) 0
cleared {n} calls h = rw (numbers-append (replicate n none) (drop n calls), zeros-none n, ← rows_behind n calls) (held-cleared h)
