-- `turn::turn` meets its contract.
use Rattle.base.proofs.Prelude.{◌∙◌, sym}
use Rattle.turn.proofs.Laws.{turns-cleared, turns-on}
use Rattle.turn.proofs.turn.Goals as goal

pub returns-then-is_refused-clause-turns : goal.returns-then-is_refused-clause-turns
returns-then-is_refused-clause-turns g c =
    turns-cleared c.look-after.ensures.looks (sym c.is_refused.ensures ∙ c.if-is_refused.true) (c.with_counts.ensures ∙ rw c.no_counts.ensures) c.clear.ensures.zeros

pub returns-clause-turns : goal.returns-clause-turns
returns-clause-turns g c = turns-on c.look-after.ensures.looks (sym c.is_refused.ensures ∙ c.if-is_refused.false)
