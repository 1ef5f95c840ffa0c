-- The modes that have a name: their numbers are below 2, the two differ, and every call has one of them.
-- Assumes nothing.
use Rattle.base.proofs.Prelude.{◌∙◌, sym, ap, refl, ◌≡◌, true, false, Bool, false≢true, ℕ, ◌<◌, zero, suc, arith}
use Rattle.std.specs.Prelude.{Option, Some, None}
use Rattle.base.specs.Choice.{pick}
use Rattle.classes.specs.declared.Class.TheVariants.{Bl, Blx1}
use Rattle.classes.specs.Class.{is}
use Rattle.arm.specs.declared.Ins.{Ins}
use Rattle.predicates.specs.declared.Mode.{Mode}
use Rattle.predicates.specs.declared.Mode.TheVariants.{Arm, Thumb, Other}
use Rattle.predicates.specs.Predicates.{mode_no, is_named, is_function_call}

pub mode-below : (m : Mode) → is_named m ≡ true → mode_no m < 2
mode-below (Other number) h = absurd (false≢true h)
mode-below mode h = omega arith

abbrev mode_of : ℕ → Mode
mode_of zero = Arm
mode_of (suc n) = Thumb

by_number : (m : Mode) → is_named m ≡ true → mode_of (mode_no m) ≡ m
by_number (Other number) h = absurd (false≢true h)
by_number mode h = refl

-- what `==` finds of two with a name: they are the same
pub named_one : {m n : Mode} → is_named m ≡ true → is_named n ≡ true → mode_no m ≡ mode_no n → m ≡ n
named_one {m = m} {n = n} a b e = sym (by_number m a) ∙ ap mode_of e ∙ by_number n b

pub called-named : (i : Ins) {m : Mode} → is_function_call i ≡ Some m → is_named m ≡ true
unfolding is_function_call
called-named i {m = m} = step (is i.class Bl) (is i.class Blx1)
  where
    step : (p q : Bool) → ◌≡◌ {A = Option Mode} (pick p (Some Arm) (pick q (Some Thumb) None)) (Some m) → is_named m ≡ true
    step true q e = let z : Arm ≡ m = cc in rw (← z)
    step false true e = let z : Thumb ≡ m = cc in rw (← z)
    step false false e = absurd cc
