-- What two tests at once come to.
-- Assumes nothing.
use Rattle.base.proofs.Prelude.{refl, ◌≡◌, true, false, Bool, false≢true}
use Rattle.base.specs.Choice.{both}

pub both_first : (s t : Bool) → both s t ≡ true → s ≡ true
both_first true t e = refl
both_first false t e = e

pub both-second : (s t : Bool) → both s t ≡ true → t ≡ true
both-second true t e = e
both-second false t e = absurd (false≢true e)

pub both_true : (s t : Bool) → both s t ≡ true → (s ≡ true) × (t ≡ true)
both_true s t e = (both_first s t e, both-second s t e)

pub both-are : (s t : Bool) → s ≡ true → t ≡ true → both s t ≡ true
both-are s t e f = rw (e, f)
