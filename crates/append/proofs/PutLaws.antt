-- A walk's entries, as the code puts them: the rows of its maps.
-- Assumes nothing.
use Rattle.base.proofs.Prelude.{◌∙◌, sym, ◌≡◌, ap, List, ℕ, ◌*◌, take}
use Rattle.context.specs.Lists.{Lists as Walked, maps_in}
use Rattle.rows.specs.Map.{flat, map_in}
use Rattle.rows.proofs.MapLaws.{flat_map}
use Rattle.table.specs.Held.{Lists, label_row, pool_row, jump_table_row, inline_table_row, call_row}
use Rattle.text.specs.Put.{put}
use Rattle.walk.specs.declared.Counts.{Counts}
use Rattle.append.specs.Append.{Lent, with_lists, filled}

-- the first rows of a list, put
put-rows : (k at n : ℕ) (list xs : List ℕ) → put list at (take (n * k) xs) ≡ put list at (flat (map_in k n xs))
put-rows k at n list xs = ap (put list at) (sym (flat_map k n xs))

lists_are : {a b c d e v w x y z : List ℕ} → a ≡ v → b ≡ w → c ≡ x → d ≡ y → e ≡ z
    → ◌≡◌ {A = Lists} (record { labels = a; pools = b; jump_tables = c; inline_tables = d; calls = e }) (record { labels = v; pools = w; jump_tables = x; inline_tables = y; calls = z })
lists_are p q r s t = cc

pub put_all : (u n : Counts) (l : Walked) (t : Lent) {labels pools jumps inlines calls : List ℕ}
    → labels ≡ put t.lists.labels (u.labels * label_row) (take (n.labels * label_row) l.labels)
    → pools ≡ put t.lists.pools (u.pools * pool_row) (take (n.pools * pool_row) l.pools)
    → jumps ≡ put t.lists.jump_tables (u.jump_tables * jump_table_row) (take (n.jump_tables * jump_table_row) l.jump_tables)
    → inlines ≡ put t.lists.inline_tables (u.inline_tables * inline_table_row) (take (n.inline_tables * inline_table_row) l.inline_tables)
    → calls ≡ put t.lists.calls (u.calls * call_row) (take (n.calls * call_row) l.calls)
    → with_lists (record { labels = labels; pools = pools; jump_tables = jumps; inline_tables = inlines; calls = calls }) t ≡ with_lists (filled u (maps_in n l) t.lists) t
put_all u n l t p q r s v =
    ap (λ (x : Lists). with_lists x t)
    (lists_are (p ∙ put-rows label_row _ n.labels _ l.labels) (q ∙ put-rows pool_row _ n.pools _ l.pools) (r ∙ put-rows jump_table_row _ n.jump_tables _ l.jump_tables)
    (s ∙ put-rows inline_table_row _ n.inline_tables _ l.inline_tables) (v ∙ put-rows call_row _ n.calls _ l.calls))
