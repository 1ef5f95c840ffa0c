-- The steps that find a word: before the end, not refused by 1 to 4, and with four bytes at the walk's address.
-- Assumes nothing.
use Rattle.std.specs.Prelude.{Bool, true, false, List, ℕ, zero, suc, ◌+◌, is_ok}
use Rattle.std.specs.Prelude.{Option, Some, None}
use Rattle.base.specs.Choice.{both}
use Rattle.base.specs.Words.{word_from}
use Rattle.context.specs.Lists.{Lists}
use Rattle.stepper.specs.Stepper.{is_going, check_at, step}
use Rattle.walk.specs.declared.Options.{Options}
use Rattle.walk.specs.declared.Walk.{Walk}

abbrev pub is_found : Option ℕ → Bool
is_found (Some w) = true
is_found None = false

abbrev pub as_number : Bool → ℕ
as_number true = 1
as_number false = 0

module _ (o : Options) (code starts : List ℕ) where
  unfoldable pub finds_word : Walk → Lists → Bool
  finds_word w l =
      both (is_going w.result) (both (is_ok (check_at o code starts w l)) (is_found (word_from code o.base w.progress.address)))

  -- among n steps
  unfoldable pub word_steps : ℕ → Walk → Lists → ℕ
  word_steps zero w l = 0
  word_steps (suc n) w l =
      as_number (finds_word w l) + word_steps n (step o code starts w l).walk (step o code starts w l).lists
