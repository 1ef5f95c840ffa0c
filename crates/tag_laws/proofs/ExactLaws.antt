-- The quotient and the remainder are exact.
-- Assumes nothing.
use Rattle.base.proofs.Prelude.{refl, ◌≡◌, true, false, Bool, ℕ, ◌+◌, ◌*◌, ◌-◌, ◌<◌, ◌/◌, ◌%◌, arith, ltb, ltb-true}
use Rattle.base.specs.Choice.{pick}
use Rattle.base.specs.declared.refusal.Refusal.TheVariants.{EmptyRecord}
use Rattle.tag.specs.declared.Tag.TheVariants.{Percent, Refused}
use Rattle.tag.specs.Tag.{tag_of}
use Rattle.tag_laws.specs.Claims.{Exact}
use Rattle.walk.specs.declared.Record.{Record}

divided : (n d : ℕ) → 0 < d → n / d * d + n % d ≡ n
divided n d h = omega arith

-- a tag has a record that ends above its start
pub tag-parts : (r : Record) (bytes quotient remainder : ℕ) → tag_of r bytes ≡ Percent quotient remainder
    → (r.start < r.end) × (bytes * 100 / (r.end - r.start) ≡ quotient) × (bytes * 100 % (r.end - r.start) ≡ remainder)
unfolding tag_of
tag-parts r bytes q m e = step (ltb r.start r.end) refl e
  where
    step : (b : Bool) → ltb r.start r.end ≡ b
        → pick b (Percent (bytes * 100 / (r.end - r.start)) (bytes * 100 % (r.end - r.start))) (Refused EmptyRecord 0 0) ≡ Percent q m
        → (r.start < r.end) × (bytes * 100 / (r.end - r.start) ≡ q) × (bytes * 100 % (r.end - r.start) ≡ m)
    step true f h = (ltb-true r.start r.end f, cc, cc)
    step false f h = absurd (let z : ◌≡◌ {A = ℕ} 0 1 = cc in omega arith)

pub exact : Exact
exact r bytes q m e =
    let p = tag-parts r bytes q m e in
    let d : 0 < r.end - r.start = (let s = p.0 in omega arith) in
    (rw (← p.1, ← p.2) (divided (bytes * 100) (r.end - r.start) d), rw (← p.2) (omega arith))
