-- The refusals that have a name: their numbers are 1 to 18, and no two have the same.
-- Assumes nothing.
use Rattle.base.proofs.Prelude.{◌∙◌, sym, ap, refl, ◌≡◌, true, false≢true, List, [], ◌∷◌, ◌≤◌, ◌-◌, arith, get_or}
use Rattle.base.specs.declared.refusal.Refusal.{Refusal}
use Rattle.base.specs.declared.refusal.Refusal.TheVariants.{BadWindow, BadStart, UnalignedStart, BadLists, IllegalOpcode, ShiftedBase, OffsetByItself, PcIntoPc, BranchOutside}
use Rattle.base.specs.declared.refusal.Refusal.TheVariants.{PoolOutside, UndefinedRegister, Beyond32Bits, ListFull, NoEpilogue, NotDone, BadRequest, EmptyRecord, NoRoom, Other}
use Rattle.base.specs.Refusals.{refusal_no, is_named}

pub named-number : (r : Refusal) → is_named r ≡ true → (1 ≤ refusal_no r) × (refusal_no r ≤ 18)
named-number (Other number) h = absurd (false≢true h)
named-number refusal h = (omega arith, omega arith)

-- in the order of their numbers
abbrev names : List Refusal
names =
    BadWindow ∷ BadStart ∷ UnalignedStart ∷ BadLists ∷ IllegalOpcode ∷ ShiftedBase ∷ OffsetByItself ∷ PcIntoPc ∷ BranchOutside ∷ PoolOutside
    ∷ UndefinedRegister ∷ Beyond32Bits ∷ ListFull ∷ NoEpilogue ∷ NotDone ∷ BadRequest ∷ EmptyRecord ∷ NoRoom ∷ []

by_number : (r : Refusal) → is_named r ≡ true → get_or names (refusal_no r - 1) NoRoom ≡ r
by_number (Other number) h = absurd (false≢true h)
by_number refusal h = refl

-- what `==` finds of two with a name: they are the same
pub named_one : {r s : Refusal} → is_named r ≡ true → is_named s ≡ true → refusal_no r ≡ refusal_no s → r ≡ s
named_one {r = r} {s = s} m n e = sym (by_number r m) ∙ ap (λ k. get_or names (k - 1) NoRoom) e ∙ by_number s n
