-- The conditions and their numbers, as the condition field has them.
-- Assumes nothing.
use Rattle.std.specs.Prelude.{ℕ, Bool, true, false, List, [], ◌∷◌, eqb}
use Rattle.classes.specs.declared.Cond.{Cond}
use Rattle.classes.specs.declared.Cond.TheVariants.{Eq, Ne, Hs, Lo, Mi, Pl, Vs, Vc, Hi, Ls, Ge, Lt, Gt, Le, Al, Nv, Other}

-- those that a word has, in the order of their numbers
abbrev pub conds : List Cond
conds = Eq ∷ Ne ∷ Hs ∷ Lo ∷ Mi ∷ Pl ∷ Vs ∷ Vc ∷ Hi ∷ Ls ∷ Ge ∷ Lt ∷ Gt ∷ Le ∷ Al ∷ Nv ∷ []

-- a condition's place in that order, or its own number
unfoldable pub cond_no : Cond → ℕ
cond_no Eq = 0
cond_no Ne = 1
cond_no Hs = 2
cond_no Lo = 3
cond_no Mi = 4
cond_no Pl = 5
cond_no Vs = 6
cond_no Vc = 7
cond_no Hi = 8
cond_no Ls = 9
cond_no Ge = 10
cond_no Lt = 11
cond_no Gt = 12
cond_no Le = 13
cond_no Al = 14
cond_no Nv = 15
cond_no (Other number) = number

-- it is one of those that a word has
abbrev pub is_named : Cond → Bool
is_named (Other number) = false
is_named cond = true

-- one condition is another
abbrev pub is_cond : Cond → Cond → Bool
is_cond c d = eqb (cond_no c) (cond_no d)
