-- A walk keeps the places of its lists, and so does what is found.
-- Assumes nothing.
use Rattle.base.proofs.Prelude.{◌∙◌, refl, ◌≡◌, ap, true, false, Bool, List, ℕ, zero, suc, [], ◌+◌, ◌/◌, length}
use Rattle.std.specs.Prelude.{Option, Some, None, Result, Ok, Err}
use Rattle.base.specs.Choice.{pick}
use Rattle.base.specs.declared.refusal.Refusal.{Refusal}
use Rattle.context.specs.Context.{label_row, pool_row, table_row, call_row}
use Rattle.context.specs.Lists.{Lists, places_of}
use Rattle.context.specs.Turn.{no_maps, counts_of}
use Rattle.invariants.specs.Turns.{steps_from}
use Rattle.invariants.proofs.KeptLaws.{none-fits, written-places, turn-places}
use Rattle.request.specs.declared.Request.{Request}
use Rattle.request.specs.Request.{code_of, parsed}
use Rattle.stepper.specs.Stepper.{After, is_going, begin, begin_where, step, step_where, unchanged, check_at}
use Rattle.validity.specs.Validity.{begin_check}
use Rattle.walk.specs.declared.Counts.{Counts}
use Rattle.walk.specs.declared.Options.{Options}
use Rattle.walk.specs.declared.Walk.{Walk}
use Rattle.whole.specs.Whole.{finished, run}
use Rattle.words.specs.declared.NoRoom.{NoRoom}
use Rattle.finder.specs.Finder.{entries_in, found_by, found_in, found, Listed}

module _ (o : Options) (code starts : List ℕ) where
  step-places : (w : Walk) (l : Lists) → places_of (step o code starts w l).lists ≡ places_of l
  unfolding step
  step-places w l = go (is_going w.result) (check_at o code starts w l) refl
    where
      go : (b : Bool) (r : Result (Unit {0}) Refusal) → check_at o code starts w l ≡ r
          → places_of (pick b (step_where o code starts w l r) (unchanged w l w.result)).lists ≡ places_of l
      go true (Ok t) passed = turn-places o code starts w l passed
      go true (Err refusal) passed = refl
      go false r passed = refl

  steps-places : (n : ℕ) (s : After) → places_of (steps_from o code starts n s).lists ≡ places_of s.lists
  unfolding steps_from
  steps-places zero s = refl
  steps-places (suc n) s = steps-places n (step o code starts s.walk s.lists) ∙ step-places s.walk s.lists

  module _ (start : ℕ) (n : Counts) (l : Lists) where
    begin-places : places_of (begin o start code starts n l).lists ≡ places_of l
    unfolding begin
    begin-places = go (begin_check o start (length code) starts)
      where
        go : (r : Result (Unit {0}) Refusal) → places_of (begin_where start n l r).lists ≡ places_of l
        go (Ok t) = written-places l no_maps (none-fits (places_of l))
        go (Err refusal) = refl

    run-places : places_of (run o code starts start n l).lists ≡ places_of l
    unfolding run
    run-places = go (is_going begun.answer) ∙ begin-places
      where
        begun : After
        begun = begin o start code starts n l

        go : (b : Bool) → places_of (pick b (finished (steps_from o code starts (suc (length code)) begun)) begun).lists ≡ places_of begun.lists
        go true = steps-places (suc (length code)) begun
        go false = refl

found-places : (input : List ℕ) (l : Lists) → places_of (found input l).lists ≡ places_of l
unfolding found found_in found_by
found-places input l = go (parsed input)
  where
    go : (p : Option Request) → places_of (found_in p input l).lists ≡ places_of l
    go (Some r) = run-places r.options (code_of input) [] r.start (counts_of no_maps) l
    go None = refl

pub listed-entries : {input out left : List ℕ} {before after : Lists} {r : Result ℕ NoRoom} → Listed input before after out r left → entries_in after ≡ entries_in before
listed-entries {input} {before = before} h =
    ap entries_in h.holds
    ∙ ap (λ (n : Counts). n.labels / label_row + n.pools / pool_row + n.jump_tables / table_row + n.inline_tables / table_row + n.calls / call_row) (found-places input before)
