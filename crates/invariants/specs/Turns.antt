-- A walk over many calls: turns without the checks between them, and steps, each from what the last one left.
-- Assumes nothing.
use Rattle.std.specs.Prelude.{List, ℕ, zero, suc}
use Rattle.base.specs.Choice.{pick}
use Rattle.context.specs.Context.{Given}
use Rattle.context.specs.Turn.{Turned, turn}
use Rattle.stepper.specs.Stepper.{After, is_going, step}
use Rattle.walk.specs.declared.Options.{Options}

module _ (g : Given) where
  -- until the walk has a result, by at most n turns
  unfoldable pub turns_from : ℕ → Turned → Turned
  turns_from zero t = t
  turns_from (suc n) t = pick (is_going t.walk.result) (turns_from n (turn g t.walk t.maps)) t

module _ (o : Options) (code starts : List ℕ) where
  -- n steps
  unfoldable pub steps_from : ℕ → After → After
  steps_from zero s = s
  steps_from (suc n) s = steps_from n (step o code starts s.walk s.lists)
