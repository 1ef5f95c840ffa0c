-- The refusals 1 to 4: what a begin or a step that passed them has shown.
-- Assumes nothing.
use Rattle.base.proofs.Prelude.{◌≡◌, true, List, ℕ, ◌+◌, ◌%◌, arith, eqb, length, eq-eqb, le-leb, eqb-true}
use Rattle.std.specs.Prelude.{Ok}
use Rattle.base.specs.declared.refusal.Refusal.TheVariants.{BadWindow, BadStart, UnalignedStart, BadLists}
use Rattle.context.specs.Lists.{Lists, AllHeld}
use Rattle.lists.specs.Lists.{are_in_order}
use Rattle.rows.specs.Map.{Held}
use Rattle.rows.proofs.MapLaws.{held-in-order, in-order-held}
use Rattle.stepper.specs.Stepper.{check_at}
pub use Rattle.validity.proofs.Laws.{Passed, passes, number_passed}
use Rattle.validity.specs.Validity.{is_window, is_in_code, are_starts, are_pools, are_bytes, are_lists, begin_check, step_check}
use Rattle.walk.specs.declared.Counts.{Counts}
use Rattle.walk.specs.declared.Options.{Options}
use Rattle.walk.specs.declared.Walk.{Walk}

-- ---- a begin that passed

pub record Begins (o : Options) (a : ℕ) (code starts : List ℕ) : Type 0 where
  pub window : is_window o (length code) ≡ true
  pub start : is_in_code o.base (length code) a ≡ true
  pub aligned : a % 4 ≡ 0
  pub ascends : Held 1 (length starts) starts

module _ (o : Options) (a : ℕ) (code starts : List ℕ) where
  pub number-begins : begin_check o a (length code) starts ≡ Ok tt → Begins o a code starts
  unfolding begin_check are_starts
  number-begins e =
      let b = passes (is_window o (length code)) _ BadWindow e in
      let c = passes (is_in_code o.base (length code) a) _ BadStart b.1 in
      let d = passes (eqb (a % 4) 0) _ UnalignedStart c.1 in
      let f = passes (are_starts starts) (Ok tt) BadLists d.1 in
      record { window = b.0; start = c.0; aligned = eqb-true (a % 4) 0 d.0; ascends = in-order-held (omega arith) f.0 }

  pub begins-number : Begins o a code starts → begin_check o a (length code) starts ≡ Ok tt
  unfolding begin_check are_starts
  begins-number p = rw (p.window, p.start, eq-eqb (a % 4) 0 p.aligned, held-in-order p.ascends)

-- ---- a step that passed

module _ (n : Counts) (l : Lists) where
  pub held-order : AllHeld n l → are_in_order n l ≡ true
  unfolding are_in_order
  held-order h =
      rw (held-in-order h.labels, held-in-order h.pools, held-in-order h.jump_tables, held-in-order h.inline_tables)
      (held-in-order h.calls)

module _ (o : Options) (code starts : List ℕ) (w : Walk) (l : Lists) where
  pub passed-number : Passed o code starts w l → check_at o code starts w l ≡ Ok tt
  unfolding step_check are_bytes are_lists are_pools are_starts
  passed-number p =
      rw (
        p.window,
        p.start,
        le-leb o.base w.progress.address p.above,
        eq-eqb (w.progress.start % 4) 0 p.aligned,
        held-in-order p.ascends,
        le-leb (w.progress.start + w.progress.instruction_bytes) w.progress.address p.bytes,
        held-order w.counts l p.lists,
        p.whole,
        eq-eqb _ _ p.last,
        p.held,
      )

  -- a begin at its start would pass too
  pub passed-begins : Passed o code starts w l → Begins o w.progress.start code starts
  passed-begins p = record { window = p.window; start = p.start; aligned = p.aligned; ascends = p.ascends }
