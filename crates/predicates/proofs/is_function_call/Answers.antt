-- `is_function_call` meets its contract.
use Rattle.base.proofs.Prelude.{sym, refl, ◌≡◌, subst, Bool, true, false, T}
use Rattle.classes.specs.declared.Class.{Class}
use Rattle.classes.specs.Class.{class_no, is}
use Rattle.classes.proofs.Numbers.{same_number}
use Rattle.predicates.specs.Predicates.{is_function_call}
use Rattle.predicates.proofs.is_function_call.Goals as goal

apart : (j k : Class) → (j ≡ k → ⊥) → is j k ≡ false
apart j k differs = go (is j k) refl
  where
    go : (b : Bool) → is j k ≡ b → b ≡ false
    go true e = absurd (differs (same_number j k (subst T (sym e) tt)))
    go false e = refl

pub returns-in-Blx1 : goal.returns-in-Blx1
unfolding is_function_call class_no
returns-in-Blx1 c = rw c.in-Blx1.is

pub returns-in_default : goal.returns-in_default
unfolding is_function_call
returns-in_default c = rw (apart _ _ c.in_default.not-Bl, apart _ _ c.in_default.not-Blx1)
