-- A check that fails gives one of the first four refusals, by its name.
-- Assumes nothing.
use Rattle.base.proofs.Prelude.{refl, ◌≡◌, true, false, Bool, List, ◌≤◌, ℕ, ◌%◌, arith, eqb}
use Rattle.std.specs.Prelude.{Result, Ok, Err}
use Rattle.base.specs.declared.refusal.Refusal.{Refusal}
use Rattle.base.specs.declared.refusal.Refusal.TheVariants.{BadWindow, BadStart, UnalignedStart, BadLists}
use Rattle.base.specs.Choice.{pick}
use Rattle.base.specs.Refusals.{refusal_no, is_named}
use Rattle.context.specs.Lists.{Lists}
use Rattle.validity.specs.Validity.{is_window, is_in_code, are_starts, begin_check, step_check}
use Rattle.walk.specs.declared.Options.{Options}
use Rattle.walk.specs.declared.Walk.{Walk}

abbrev pub IsEarly : Result (Unit {0}) Refusal → Type 0
IsEarly (Ok t) = Unit {0}
IsEarly (Err refusal) = (is_named refusal ≡ true) × (1 ≤ refusal_no refusal) × (refusal_no refusal ≤ 4)

one_of-four : (p q r t : Bool)
    → IsEarly (pick p (pick q (pick r (pick t (Ok tt) (Err BadLists)) (Err UnalignedStart)) (Err BadStart)) (Err BadWindow))
one_of-four true true true true = tt
one_of-four true true true false = (refl, omega arith, omega arith)
one_of-four true true false t = (refl, omega arith, omega arith)
one_of-four true false r t = (refl, omega arith, omega arith)
one_of-four false q r t = (refl, omega arith, omega arith)

pub begin-early : (o : Options) (start length : ℕ) (starts : List ℕ) → IsEarly (begin_check o start length starts)
unfolding begin_check
begin-early o start length starts = one_of-four (is_window o length) (is_in_code o.base length start) (eqb (start % 4) 0) (are_starts starts)

pub step-early : (o : Options) (length : ℕ) (starts : List ℕ) (w : Walk) (l : Lists) → IsEarly (step_check o length starts w l)
unfolding step_check
step-early o length starts w l = one_of-four (is_window o length) _ (eqb (w.progress.start % 4) 0) _
