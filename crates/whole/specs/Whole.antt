-- The whole walk: a begin; one step more than the code has bytes, by when the walk has ended; and a finish.
-- Assumes nothing.
use Rattle.std.specs.Prelude.{List, ℕ, suc, length}
use Rattle.base.specs.Choice.{pick}
use Rattle.context.specs.Lists.{Lists}
use Rattle.invariants.specs.Turns.{steps_from}
use Rattle.stepper.specs.Stepper.{After, is_going, begin, finish}
use Rattle.walk.specs.declared.Counts.{Counts}
use Rattle.walk.specs.declared.Options.{Options}

abbrev pub finished : After → After
finished a = record { walk = a.walk; lists = a.lists; answer = finish a.walk }

module _ (o : Options) (code starts : List ℕ) where
  -- a begin that is refused is the answer
  abbrev pub on_from : After → After
  on_from b = pick (is_going b.answer) (finished (steps_from o code starts (suc (length code)) b)) b

  unfoldable pub run : ℕ → Counts → Lists → After
  run start n l = on_from (begin o start code starts n l)
