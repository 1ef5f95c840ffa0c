-- Five lists that are zero in every place.
-- Assumes nothing.
use Rattle.base.proofs.Prelude.{◌∙◌, ◌≡◌, ap, List, [], ℕ, ◌-◌, arith, length, replicate}
use Rattle.context.specs.Lists.{Lists, lists, zeroed}
use Rattle.rows.specs.Map.{flat, encode}
use Rattle.rows.specs.Rows.{padded}

pub same_lists : {a b c d e v w x y z : List ℕ} → a ≡ v → b ≡ w → c ≡ x → d ≡ y → e ≡ z → lists a b c d e ≡ lists v w x y z
same_lists p q r s t = cc

pub zeros-encode : (n : ℕ) → replicate n 0 ≡ encode n []
unfolding padded flat
zeros-encode n = let e : n ≡ n - 0 = omega arith in ap (λ (i : ℕ). replicate {A = ℕ} i 0) e

pub all_zeroed : {labels pools jumps inlines calls : List ℕ} (l : Lists) → labels ≡ replicate (length l.labels) 0 → pools ≡ replicate (length l.pools) 0
    → jumps ≡ replicate (length l.jump_tables) 0 → inlines ≡ replicate (length l.inline_tables) 0 → calls ≡ replicate (length l.calls) 0
    → lists labels pools jumps inlines calls ≡ zeroed l
all_zeroed l p q r s t = same_lists (p ∙ zeros-encode _) (q ∙ zeros-encode _) (r ∙ zeros-encode _) (s ∙ zeros-encode _) (t ∙ zeros-encode _)
