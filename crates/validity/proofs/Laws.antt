-- The laws of the refusals 1 to 4: the tests of all pools, and what a step that passed them has shown.
-- Assumes nothing.
use Rattle.base.proofs.Prelude.{refl, ◌≡◌, false, true, Bool, List, [], ◌∷◌, ◌≤◌, ℕ, ◌+◌, ◌%◌, arith, eqb, leb, length}
use Rattle.base.proofs.Prelude.{leb-true, eqb-true}
use Rattle.std.specs.Prelude.{Result, Ok, Err, ◌&&◌}
use Rattle.std.specs.List.{list_all}
use Rattle.base.specs.declared.refusal.Refusal.{Refusal}
use Rattle.base.specs.declared.refusal.Refusal.TheVariants.{BadWindow, BadStart, UnalignedStart, BadLists}
use Rattle.base.specs.Choice.{pick, both, either}
use Rattle.context.specs.Context.{label_row, pool_row, table_row}
use Rattle.context.specs.Lists.{Lists, AllHeld, maps_in}
use Rattle.context.specs.Turn.{key_or0}
use Rattle.lists.specs.Lists.{are_in_order}
use Rattle.rows.specs.Map.{key_of, stands-in, last_key, Held, in_order}
use Rattle.rows.proofs.MapLaws.{in-order-held}
use Rattle.base.proofs.ChoiceLaws.{both_true}
use Rattle.validity.specs.Validity.{low, high, is_window, is_in_code, are_starts, is_whole, are_whole, are_held, are_pools, are_bytes, are_lists, step_check}
use Rattle.walk.specs.declared.Counts.{Counts}
use Rattle.walk.specs.declared.Options.{Options}
use Rattle.walk.specs.declared.Walk.{Walk}

-- ---- the tests of each pool and of each register's pool

pub whole-all : (base code : ℕ) (pools : List (List ℕ)) → list_all (λ p. is_whole base code (key_of p)) pools ≡ are_whole base code pools
unfolding are_whole
whole-all base code [] = refl
whole-all base code (p ∷ ps) = step (is_whole base code (key_of p)) (whole-all base code ps)
  where
    step : (b : Bool) → list_all (λ p. is_whole base code (key_of p)) ps ≡ are_whole base code ps
        → (b && list_all (λ p. is_whole base code (key_of p)) ps) ≡ both b (are_whole base code ps)
    step true e = e
    step false e = refl

pub held-all : (sources : List ℕ) (pools : List (List ℕ)) → list_all (λ s. either (eqb s 0) (stands-in pools s)) sources ≡ are_held sources pools
unfolding are_held
held-all [] pools = refl
held-all (s ∷ ss) pools = step (either (eqb s 0) (stands-in pools s)) (held-all ss pools)
  where
    step : (b : Bool) → list_all (λ s. either (eqb s 0) (stands-in pools s)) ss ≡ are_held ss pools
        → (b && list_all (λ s. either (eqb s 0) (stands-in pools s)) ss) ≡ both b (are_held ss pools)
    step true e = e
    step false e = refl

-- ---- lists in order

module _ (n : Counts) (l : Lists) where
  pub order-held : are_in_order n l ≡ true → AllHeld n l
  unfolding are_in_order
  order-held e =
      let a = both_true (in_order label_row n.labels l.labels) _ e in
      let b = both_true (in_order pool_row n.pools l.pools) _ a.1 in
      let c = both_true (in_order table_row n.jump_tables l.jump_tables) _ b.1 in
      let d = both_true (in_order table_row n.inline_tables l.inline_tables) _ c.1 in
      record {
        labels = in-order-held (omega arith) a.0;
        pools = in-order-held (omega arith) b.0;
        jump_tables = in-order-held (omega arith) c.0;
        inline_tables = in-order-held (omega arith) d.0;
        calls = in-order-held (omega arith) d.1;
      }

-- ---- a step that passed

pub record Passed (o : Options) (code starts : List ℕ) (w : Walk) (l : Lists) : Type 0 where
  pub window : is_window o (length code) ≡ true
  pub start : is_in_code o.base (length code) w.progress.start ≡ true
  pub above : o.base ≤ w.progress.address
  pub aligned : w.progress.start % 4 ≡ 0
  pub ascends : Held 1 (length starts) starts
  pub bytes : w.progress.start + w.progress.instruction_bytes ≤ w.progress.address
  pub lists : AllHeld w.counts l
  pub whole : are_whole o.base (length code) (maps_in w.counts l).pools ≡ true
  pub last : w.progress.last_pool_address ≡ key_or0 (last_key (maps_in w.counts l).pools)
  pub held : are_held w.registers.sources (maps_in w.counts l).pools ≡ true

-- a test, and what comes after it
pub passes : (b : Bool) (x : Result (Unit {0}) Refusal) (r : Refusal) → pick b x (Err r) ≡ Ok tt → (b ≡ true) × (x ≡ Ok tt)
passes true x r e = (refl, e)
passes false x r e = cc

module _ (o : Options) (code starts : List ℕ) (w : Walk) (l : Lists) where
  pub number_passed : step_check o (length code) starts w l ≡ Ok tt → Passed o code starts w l
  unfolding step_check are_bytes are_lists are_pools are_starts
  number_passed e =
      let a = passes (is_window o (length code)) _ BadWindow e in
      let b = passes _ _ BadStart a.1 in
      let c = passes (eqb (w.progress.start % 4) 0) _ UnalignedStart b.1 in
      let d = passes _ (Ok tt) BadLists c.1 in
      let f = both_true (is_in_code o.base (length code) w.progress.start) _ b.0 in
      let g = both_true (are_starts starts) _ d.0 in
      let k = both_true (leb (w.progress.start + w.progress.instruction_bytes) w.progress.address) _ g.1 in
      let h = both_true (are_in_order w.counts l) _ k.1 in
      let i = both_true (are_whole o.base (length code) (maps_in w.counts l).pools) _ h.1 in
      let j = both_true (eqb w.progress.last_pool_address (key_or0 (last_key (maps_in w.counts l).pools))) _ i.1 in
      record {
        window = a.0;
        start = f.0;
        above = leb-true o.base w.progress.address f.1;
        aligned = eqb-true (w.progress.start % 4) 0 c.0;
        ascends = in-order-held (omega arith) g.0;
        bytes = leb-true _ _ k.0;
        lists = order-held w.counts l h.0;
        whole = i.0;
        last = eqb-true _ _ j.0;
        held = j.1;
      }

pub window-fits : (o : Options) (length : ℕ) → is_window o length ≡ true → o.base + length ≤ high
unfolding is_window
window-fits o length e = leb-true _ _ (both_true (leb (o.base + length) high) _ (both_true (leb low o.base) _ e).1).0
