-- The pools of two walks: the same addresses and marks, and for value, in each, the word at the address in that walk's own code.
-- Assumes nothing.
use Rattle.base.proofs.Prelude.{refl, ◌≡◌, ap, true, false, Bool, false≢true, List, [], ◌∷◌, map, ℕ, suc, eqb, ltb, length, get_or, eqb-true}
use mathlib.Core.Path.{fun_ext}
use Rattle.std.specs.Prelude.{Some}
use Rattle.base.specs.Choice.{pick}
use Rattle.base.specs.Words.{word_from}
use Rattle.context.specs.Blocks.{marked, call}
use Rattle.context.specs.Context.{pool_row}
use Rattle.rows.specs.Rows.{rank, stands, inserted}
use Rattle.rows.specs.Map.{key_of, stands-in, Wide, first_key, last_key}

module _ (c d : List ℕ) (base : ℕ) where
  -- the word at an address, in each code
  pub record Words (a u v : ℕ) : Type 0 where
    pub first : word_from c base a ≡ Some u
    pub second : word_from d base a ≡ Some v

  pub data Paired : List (List ℕ) → List (List ℕ) → Type 0 where
    none : Paired [] []
    more : {a u v m : ℕ} {ps qs : List (List ℕ)} → Words a u v → Paired ps qs
        → Paired ((a ∷ u ∷ m ∷ []) ∷ ps) ((a ∷ v ∷ m ∷ []) ∷ qs)

  -- ---- what is asked of pools does not depend on their values

  pub paired-keys : {ps qs : List (List ℕ)} → Paired ps qs → map key_of qs ≡ map key_of ps
  paired-keys none = refl
  paired-keys (more {a} w k) = ap (λ (xs : List ℕ). a ∷ xs) (paired-keys k)

  pub paired-length : {ps qs : List (List ℕ)} → Paired ps qs → length qs ≡ length ps
  paired-length none = refl
  paired-length (more w k) = ap suc (paired-length k)

  pub paired-stands : {ps qs : List (List ℕ)} (x : ℕ) → Paired ps qs → stands key_of x qs ≡ stands key_of x ps
  unfolding stands
  paired-stands x none = refl
  paired-stands x (more {a} w k) = ap (λ (b : Bool). pick (ltb a x) b (eqb a x)) (paired-stands x k)

  pub paired-stands-in : {ps qs : List (List ℕ)} → Paired ps qs → stands-in qs ≡ stands-in ps
  paired-stands-in k = fun_ext (λ x. paired-stands x k)

  pub paired-first : {ps qs : List (List ℕ)} → Paired ps qs → first_key qs ≡ first_key ps
  unfolding first_key
  paired-first none = refl
  paired-first (more w k) = refl

  pub paired-last : {ps qs : List (List ℕ)} → Paired ps qs → last_key qs ≡ last_key ps
  unfolding last_key
  paired-last none = refl
  paired-last (more w none) = refl
  paired-last (more w (more {m} x k)) = paired-last (more {m = m} x k)

  -- three numbers a row
  pub paired-wide : {ps qs : List (List ℕ)} → Paired ps qs → Wide pool_row ps × Wide pool_row qs
  paired-wide none = (tt, tt)
  paired-wide (more w k) = let rest = paired-wide k in ((refl, rest.0), (refl, rest.1))

  -- ---- an insertion, and a mark

  pick-paired : {ps qs ps' qs' : List (List ℕ)} (b : Bool) → Paired ps qs → Paired ps' qs' → Paired (pick b ps ps') (pick b qs qs')
  pick-paired true k k' = k
  pick-paired false k k' = k'

  pub paired-inserted : {ps qs : List (List ℕ)} (a u v m : ℕ) → Words a u v → Paired ps qs
      → Paired (inserted key_of (a ∷ u ∷ m ∷ []) ps) (inserted key_of (a ∷ v ∷ m ∷ []) qs)
  unfolding inserted
  paired-inserted a u v m w none = more w none
  paired-inserted a u v m w (more {a = b} z k) =
      pick-paired (ltb b a) (more z (paired-inserted a u v m w k)) (pick-paired (eqb b a) (more w k) (more w (more z k)))

  -- the value of the row with the address
  abbrev value_for : ℕ → List (List ℕ) → ℕ
  value_for a ps = get_or (get_or ps (rank key_of a ps) []) 1 0

  paired-value : {ps qs : List (List ℕ)} (a : ℕ) → Paired ps qs → stands key_of a ps ≡ true → Words a (value_for a ps) (value_for a qs)
  unfolding rank stands
  paired-value a none e = absurd (false≢true e)
  paired-value a (more {a = b} {u = u} {v = v} {m = m} {ps = ps} {qs = qs} w k) e = step (ltb b a) (eqb b a) refl (paired-value a k) e
    where
      step : (lt eq : Bool) → eqb b a ≡ eq → (stands key_of a ps ≡ true → Words a (value_for a ps) (value_for a qs))
          → pick lt (stands key_of a ps) eq ≡ true
          → Words a
          (get_or (get_or ((b ∷ u ∷ m ∷ []) ∷ ps) (pick lt (suc (rank key_of a ps)) 0) []) 1 0)
          (get_or (get_or ((b ∷ v ∷ m ∷ []) ∷ qs) (pick lt (suc (rank key_of a qs)) 0) []) 1 0)
      step true eq q rest h = rest h
      step false true q rest h = rw (eqb-true b a q) at w
      step false false q rest h = absurd (false≢true h)

  pub paired-marked : {ps qs : List (List ℕ)} (a : ℕ) → Paired ps qs → Paired (marked a ps) (marked a qs)
  unfolding marked
  paired-marked {ps} {qs} a k = rw (paired-stands a k) (step (stands key_of a ps) refl)
    where
      step : (b : Bool) → stands key_of a ps ≡ b
          → Paired (pick b (inserted key_of (a ∷ value_for a ps ∷ call ∷ []) ps) ps) (pick b (inserted key_of (a ∷ value_for a qs ∷ call ∷ []) qs) qs)
      step true e = paired-inserted a (value_for a ps) (value_for a qs) call (paired-value a k e) k
      step false e = k
