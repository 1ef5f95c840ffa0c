-- Lists that are the same places: one law for a loop's start, and one for each of its turns.
-- Assumes nothing.
use Rattle.base.proofs.Prelude.{◌∙◌, refl}
use Rattle.lists.specs.declared.Lists.{Lists}
use Rattle.lists.specs.Lists.{IsSame}

module _ {C : Type 0} {same : C → C → Type 0} where
  pub same_start : ((s : C) → same s s) → (l : Lists C) → IsSame same l l
  same_start unmoved l = record { labels = refl; pools = refl; jump_tables = refl; inline_tables = refl; calls = unmoved l.calls }

  pub same_then : ((s t u : C) → same s t → same t u → same s u) → {a b c : Lists C} → IsSame same a b → IsSame same b c → IsSame same a c
  same_then twice p q = record {
    labels = q.labels ∙ p.labels;
    pools = q.pools ∙ p.pools;
    jump_tables = q.jump_tables ∙ p.jump_tables;
    inline_tables = q.inline_tables ∙ p.inline_tables;
    calls = twice _ _ _ p.calls q.calls;
  }
