-- `labels::past_pools` meets its contract.
use Rattle.base.proofs.Prelude.{◌∙◌, sym, refl, arith, rules, lt-ltb, le-ltb}
use Rattle.context.specs.Blocks.{past_pools}
use Rattle.labels.proofs.Laws.{above_within}
use Rattle.labels.proofs.past_pools.Goals as goal

pub returns-then-not-contains : goal.returns-then-not-contains
unfolding past_pools
returns-then-not-contains c = λ l a p h. rw (c.on.ensures, (sym (rw p at c.contains.ensures) ∙ c.if-not-contains.true)) (record { stays = refl; call = refl; holds = h; says = refl })

pub offset_bounds-labels-k : goal.offset_bounds-labels-k
offset_bounds-labels-k c =
    let within = above_within _ _ (sym c.at_or_above.ensures ∙ c.in-Some.is) in
    search (rules, arith)

pub bounds-labels-k : goal.bounds-labels-k
bounds-labels-k c = above_within _ _ (sym c.at_or_above.ensures ∙ c.in-Some.is)

pub returns-in-None : goal.returns-in-None
unfolding past_pools
returns-in-None c = λ l a p h. rw (c.end.ensures, (sym (rw p at c.contains.ensures) ∙ c.if-not-contains.false), ← (rw a at c.at_or_above.ensures), c.in-None.is, lt-ltb _ _ c.if-s-parsed.true) (record { stays = refl; call = refl; holds = h; says = refl })

pub returns-in-Some : goal.returns-in-Some
unfolding past_pools
returns-in-Some c = λ l a p h. rw (c.on-in-Some.ensures, c.goto.ensures, a, (sym (rw p at c.contains.ensures) ∙ c.if-not-contains.false), ← (rw a at c.at_or_above.ensures), c.in-Some.is) (record { stays = refl; call = refl; holds = h; says = refl })

pub returns-in-Some-first_gap : goal.returns-in-Some-first_gap
unfolding past_pools
returns-in-Some-first_gap c = λ l a p h. rw (c.on-in-Some-first_gap.ensures, c.goto-in-Some-first_gap.ensures, (sym (rw p at c.contains.ensures) ∙ c.if-not-contains.false), ← (rw a at c.at_or_above.ensures), c.in-None.is, le-ltb _ _ c.if-s-parsed.false, ← (rw p at c.first_gap.ensures), c.in-Some-first_gap.is) (record { stays = refl; call = refl; holds = h; says = refl })

pub returns-in-None-first_gap : goal.returns-in-None-first_gap
unfolding past_pools
returns-in-None-first_gap c = λ l a p h. rw (c.refuse.ensures, (sym (rw p at c.contains.ensures) ∙ c.if-not-contains.false), ← (rw a at c.at_or_above.ensures), c.in-None.is, le-ltb _ _ c.if-s-parsed.false, ← (rw p at c.first_gap.ensures), c.in-None-first_gap.is) (record { stays = refl; call = refl; holds = h; says = refl })
