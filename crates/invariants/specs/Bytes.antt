-- The instruction bytes of a walk: those of each step that found a word and was neither skipped as pool or table nor stopped as the entry of the
-- next function. A step that is refused has none.
-- Assumes nothing.
use Rattle.std.specs.Prelude.{Bool, true, false, List, ℕ, zero, suc, ◌+◌, eqb, length}
use Rattle.std.proofs.Math.Option.{Option, none, some}
use Rattle.base.specs.Choice.{pick, either}
use Rattle.rows.specs.Map.{stands-in}
use Rattle.context.specs.Blocks.{inline_table_at}
use Rattle.context.specs.Context.{Maps}
use Rattle.context.specs.Lists.{Lists, maps_in}
use Rattle.context.specs.Turn.{arm_size}
use Rattle.stepper.specs.Stepper.{begin, step}
use Rattle.walk.specs.declared.Answer.{Answer}
use Rattle.walk.specs.declared.Answer.TheVariants.{Going, Accepted, Refused}
use Rattle.walk.specs.declared.Counts.{Counts}
use Rattle.walk.specs.declared.Options.{Options}
use Rattle.walk.specs.declared.Walk.{Walk}

abbrev pub is_some : Option (List ℕ) → Bool
is_some none = false
is_some (some row) = true

-- a pool stands at the address, or an inline table holds it: the step skips it
unfoldable pub is_data : ℕ → List (List ℕ) → List (List ℕ) → Bool
is_data a pools tables = either (stands-in pools a) (is_some (inline_table_at a tables))

-- of a step that skips nothing, by the result after it and by whether it leaves the walk where it was. A step that found a word goes on past it,
-- and ends behind it; but one that stops at the entry of the next function ends where it began
abbrev pub bytes_at : Answer → Bool → ℕ
bytes_at Going stays = pick stays 0 arm_size
bytes_at (Accepted r) stays = pick stays 0 arm_size
bytes_at (Refused refusal a r) stays = 0

-- of a step that skips data or not
abbrev pub bytes_by : Bool → ℕ → ℕ
bytes_by skips bytes = pick skips 0 bytes

-- of a step from this address over these maps, by the walk that it leaves
unfoldable pub bytes_to : ℕ → Maps → Walk → ℕ
bytes_to a m after = bytes_by (is_data a m.pools m.inline_tables) (bytes_at after.result (eqb after.progress.address a))

module _ (o : Options) (code starts : List ℕ) where
  abbrev pub step_bytes : Walk → Lists → ℕ
  step_bytes w l = bytes_to w.progress.address (maps_in w.counts l) (step o code starts w l).walk

  -- among n steps
  unfoldable pub bytes_from : ℕ → Walk → Lists → ℕ
  bytes_from zero w l = 0
  bytes_from (suc n) w l = step_bytes w l + bytes_from n (step o code starts w l).walk (step o code starts w l).lists

  -- of the whole walk: by one step more than the code has bytes it has ended
  abbrev pub bytes_of : ℕ → Counts → Lists → ℕ
  bytes_of start n l =
      bytes_from (suc (length code)) (begin o start code starts n l).walk (begin o start code starts n l).lists
