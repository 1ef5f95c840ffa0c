-- The conditions that a word has: their numbers are below 16, no two have the same, and every word has one of them.
-- Assumes nothing.
use mathlib.Core.Path.{◌≡◌, ◌∙◌, sym, ap, refl}
use mathlib.Core.Bool.{Bool, true, false, false≢true}
use mathlib.Core.List.{List, [], ◌∷◌}
use Prim.Native.Nat.{ℕ, zero, suc, ◌<◌, ◌/◌, ◌^◌}
use native.Mathlib.Omega.{arith}
use lib.ListN.{get_or}
use Rattle.std.specs.Prelude.{◌&&◌}
use Rattle.std.specs.List.{list_all}
use Rattle.classes.specs.declared.Cond.{Cond}
use Rattle.classes.specs.declared.Cond.TheVariants.{Nv, Other}
use Rattle.classes.specs.Cond.{cond_no, conds, is_named}
use Rattle.classes.specs.Fields.{cond_of}

pub cond-below : (c : Cond) → is_named c ≡ true → cond_no c < 16
unfolding cond_no
cond-below (Other number) h = absurd (false≢true h)
cond-below cond h = omega arith

by_number : (c : Cond) → is_named c ≡ true → get_or conds (cond_no c) Nv ≡ c
unfolding cond_no
by_number (Other number) h = absurd (false≢true h)
by_number cond h = refl

-- what `==` finds of two such: they are the same
pub named_one : {c d : Cond} → is_named c ≡ true → is_named d ≡ true → cond_no c ≡ cond_no d → c ≡ d
named_one {c = c} {d = d} m n e = sym (by_number c m) ∙ ap (λ k. get_or conds k Nv) e ∙ by_number d n

both_true : (a b : Bool) → a && b ≡ true → (a ≡ true) × (b ≡ true)
both_true true b h = (refl, h)
both_true false b h = absurd (false≢true h)

-- each of a list of such, and what stands for no place of it
among : (cs : List Cond) → list_all is_named cs ≡ true → (n : ℕ) → is_named (get_or cs n Nv) ≡ true
among [] h n = refl
among (c ∷ cs) h zero = (both_true (is_named c) _ h).0
among (c ∷ cs) h (suc n) = among cs (both_true (is_named c) _ h).1 n

pub cond_of-named : (w : ℕ) → is_named (cond_of w) ≡ true
cond_of-named w = among conds refl (w / 2 ^ 28)
