-- A word that is found lies wholly in the code.
-- Assumes nothing.
use Rattle.base.proofs.Prelude.{refl, ◌≡◌, true, false, Bool, List, ◌≤◌, ℕ, ◌+◌, ◌-◌, arith, ltb, length, drop, length-drop, ltb-false}
use Rattle.base.specs.Choice.{pick}
use Rattle.base.specs.Words.{word_from, first_word}
use Rattle.std.specs.Prelude.{Option, Some, None}

pub found_inside : (code : List ℕ) (base a w : ℕ) → word_from code base a ≡ Some w → (base ≤ a) × (a + 4 ≤ base + length code)
unfolding word_from first_word
found_inside code base a w e =
    step (ltb a base) (ltb (length code) (a - base)) (ltb (length (drop (a - base) code)) 4) _ refl refl refl e
  where
    step : (p q r : Bool) (x : Option ℕ) → ltb a base ≡ p → ltb (length code) (a - base) ≡ q → ltb (length (drop (a - base) code)) 4 ≡ r
        → pick p None (pick q None (pick r None x)) ≡ Some w → (base ≤ a) × (a + 4 ≤ base + length code)
    step true q r x h i j f = let z : ◌≡◌ {A = ℕ} 0 1 = cc in absurd (omega arith)
    step false true r x h i j f = let z : ◌≡◌ {A = ℕ} 0 1 = cc in absurd (omega arith)
    step false false true x h i j f = let z : ◌≡◌ {A = ℕ} 0 1 = cc in absurd (omega arith)
    step false false false x h i j f = omega (arith, ltb-false, length-drop (a - base) code)
