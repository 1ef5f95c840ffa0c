-- What the records from a place on tell, and what all of them do.
-- Assumes nothing.
use Rattle.base.proofs.Prelude.{◌∙◌, sym, refl, ◌≡◌, ap, false, true, Bool, List, [], ◌∷◌, map, ◌≤◌, ℕ, ◌+◌, ◌<◌, ◌-◌, suc, zero, arith, add-zero}
use Rattle.base.proofs.Prelude.{eqb, ltb, leb, length, get_or, drop, take, drop-cons, le-leb, lt-leb, leb-true, leb-false}
use mathlib.Core.Bool.{◌&&◌, ◌||◌}
use native.Mathlib.Nat.{zero-add}
use lib.Seq.{take-nil, drop-nil}
use Rattle.base.specs.Choice.{pick, both, either}
use Rattle.context.specs.Blocks.{is_destination}
use Rattle.rows.specs.Order.{rising, ascending, zeros}
use Rattle.rows.specs.Rows.{rank, stands}
use Rattle.rows.specs.Map.{key_of, flat}
use Rattle.calls.specs.declared.Call.{Call}
use Rattle.calls.specs.declared.told.Told.{Told}
use Rattle.calls.specs.Records.{row_of, numbers_of, rows_in, is_none, passed_by, met_by, seen_by, Tells, none}
use Rattle.calls.proofs.RecordLaws.{follows, order_is, zeros-more}

-- what is asked, before any record is passed
abbrev pub asked : ℕ → ℕ → ℕ → Told
asked places count address = record {
  count = count;
  address = address;
  places = places;
  next = 0;
  is_ordered = leb count places;
  is_called = false;
  at = places;
  is_held = false;
}

abbrev first : List Call → ℕ
first [] = 0
first (c ∷ cs) = c.address

-- the records cs, which stand at place i and after it, tell t of a list of n calls for the address x
pub record Says (all n x i : ℕ) (cs : List Call) (t : Told) : Type 0 where
  counts : t.count ≡ n
  asks : t.address ≡ x
  places : t.places ≡ all
  pub ends : i + length cs ≡ all
  next : i < n → t.next ≡ first cs
  ordered : t.is_ordered ≡ both (leb n all) (follows (n - i) cs)
  called : t.is_called ≡ is_destination (x + 4) (rows_in (n - i) cs)
  place : t.at ≡ i + rank key_of x (rows_in (n - i) cs)
  held : t.is_held ≡ stands key_of x (rows_in (n - i) cs)

-- ---- tests one after another

joined : (p q r : Bool) → both p (both q r) ≡ both (both p q) r
joined true q r = refl
joined false q r = refl

exchanged : (p q r : Bool) → p && both q r ≡ both q (both p r)
exchanged true q r = refl
exchanged false true r = refl
exchanged false false r = refl

never : (p : Bool) → p && false ≡ false
never true = refl
never false = refl

or_is : (p q : Bool) → p || q ≡ either p q
or_is true q = refl
or_is false q = refl

always : (p : Bool) → p ≡ both p true
always true = refl
always false = refl

-- ---- one record more

module _ {all n x i : ℕ} (c : Call) {cs : List Call} {t : Told} (w : Says all n x (suc i) cs t) where
  counted : i + suc (length cs) ≡ all
  counted = omega (arith, w.ends)

  behind : n ≤ i → Says all n x i (c ∷ cs) (passed_by t i c)
  unfolding ascending rank
  behind h =
      let here : n - i ≡ 0 = omega arith in
      let past : n - suc i ≡ 0 = omega arith in
      record {
        counts = w.counts;
        asks = w.asks;
        places = w.places;
        ends = counted;
        next = λ l. absurd (omega arith);
        ordered =
            rw here
            (ap (λ p. is_none c && p) (w.ordered ∙ rw past)
            ∙ exchanged (is_none c) (leb n all) (zeros (numbers_of cs))
            ∙ ap (both (leb n all)) (sym (zeros-more c cs)));
        called = w.called ∙ rw (past, here);
        place = rw here (sym (add-zero i));
        held = w.held ∙ rw (past, here);
      }

  -- the calls from c on ascend where those behind it do, and it precedes them
  in_order : (k : ℕ) → n - suc i ≡ k → i < n
      → (leb t.count (i + 1) || ltb c.address t.next) && both (leb n all) (follows k cs)
      ≡ both (leb n all) (follows (suc k) (c ∷ cs))
  unfolding ascending rising
  in_order zero e h = rw (w.counts, le-leb n (i + 1) (omega arith))
  in_order (suc k) e h = rw (w.counts, lt-leb n (i + 1) (omega arith)) (step cs w.ends (w.next (omega arith)))
    where
      step : (ds : List Call) → suc i + length ds ≡ all → t.next ≡ first ds
          → ltb c.address t.next && both (leb n all) (follows (suc k) ds) ≡ both (leb n all) (follows (suc (suc k)) (c ∷ ds))
      step [] many f = rw (lt-leb n all (omega (arith, e))) (never (ltb c.address t.next))
      step (d ∷ ds) many f =
          let before = ltb c.address d.address in
          rw f
          (exchanged before (leb n all) (follows (suc k) (d ∷ ds))
          ∙ ap (both (leb n all)) (joined before (ascending (map key_of (map row_of (take (suc k) (d ∷ ds))))) (zeros (numbers_of (drop (suc k) (d ∷ ds))))))

  among : i < n → Says all n x i (c ∷ cs) (met_by t i c)
  unfolding is_destination rank stands
  among h =
      let more : n - i ≡ suc (n - suc i) = omega arith in
      record {
        counts = w.counts;
        asks = w.asks;
        places = w.places;
        ends = counted;
        next = λ l. refl;
        ordered = rw (w.ordered, more) (in_order (n - suc i) refl h);
        called = rw (w.asks, w.called, more) (or_is (eqb c.destination (x + 4)) (is_destination (x + 4) (rows_in (n - suc i) cs)));
        place = rw (w.asks, w.place, more) (step (ltb c.address x) (rank key_of x (rows_in (n - suc i) cs)));
        held = rw (w.asks, w.held, more);
      }
    where
      step : (b : Bool) (r : ℕ) → pick b (suc i + r) i ≡ i + pick b (suc r) 0
      step true r = let e : suc i + r ≡ i + suc r = omega arith in e
      step false r = sym (add-zero i)

  pub says-more : Says all n x i (c ∷ cs) (seen_by t i c)
  unfolding seen_by
  says-more = step (leb t.count i) refl
    where
      step : (b : Bool) → leb t.count i ≡ b → Says all n x i (c ∷ cs) (pick b (passed_by t i c) (met_by t i c))
      step true e = behind (rw w.counts at (leb-true t.count i e))
      step false e = among (rw w.counts at (leb-false t.count i e))

-- the record before those from a place on
pub says_back : {all n x : ℕ} {t : Told} (calls : List Call) (i : ℕ) → i < length calls → Says all n x (suc i) (drop (suc i) calls) t
    → Says all n x i (drop i calls) (seen_by t i (get_or calls i none))
says_back calls i l w = rw (drop-cons calls i none) (says-more (get_or calls i none) w)

-- ---- none, and all

pub says_none : (all n x : ℕ) → Says all n x all [] (asked all n x)
unfolding ascending flat zeros is_destination rank stands
says_none all n x = record {
  counts = refl;
  asks = refl;
  places = refl;
  ends = add-zero all;
  next = λ l. refl;
  ordered = rw (take-nil, drop-nil) (always (leb n all));
  called = rw take-nil;
  place = rw take-nil (sym (add-zero all));
  held = rw take-nil;
}

pub says_all : {n x : ℕ} (calls : List Call) {t : Told} → Says (length calls) n x 0 calls t → Tells calls n x t
says_all {n} {x} calls w =
    let whole : n - 0 ≡ n = omega arith in
    record {
      counts = w.counts;
      places = w.places;
      ordered = w.ordered ∙ rw whole (sym (order_is n calls));
      called = w.called ∙ rw whole;
      place = w.place ∙ rw (whole, zero-add);
      held = w.held ∙ rw whole;
    }
