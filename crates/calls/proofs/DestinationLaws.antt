-- Whether a call goes to an address, as a test of each, in any form that has rows.
-- Assumes nothing.
use Rattle.base.proofs.Prelude.{refl, ◌≡◌, true, false, Bool, List, [], ◌∷◌, map, ℕ, eqb, get_or}
use Rattle.base.specs.Choice.{pick}
use Rattle.context.specs.Blocks.{is_destination}
use Rattle.std.specs.List.{list_any}
use Rattle.std.specs.Prelude.{◌||◌}

pub goes-any : {A : Type 0} (row : A → List ℕ) (a : ℕ) (calls : List A) → list_any (λ c. eqb (get_or (row c) 2 0) a) calls ≡ is_destination a (map row calls)
unfolding is_destination
goes-any row a [] = refl
goes-any row a (c ∷ cs) = step (eqb (get_or (row c) 2 0) a) (goes-any row a cs)
  where
    step : (b : Bool) → list_any (λ d. eqb (get_or (row d) 2 0) a) cs ≡ is_destination a (map row cs)
        → (b || list_any (λ d. eqb (get_or (row d) 2 0) a) cs) ≡ pick b true (is_destination a (map row cs))
    step true e = refl
    step false e = e
