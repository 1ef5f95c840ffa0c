-- `raises_label` and `label_raised` of the definition, on the code's state, and a block over the maps of labels and pools.
-- Assumes nothing.
use Rattle.std.specs.Prelude.{◌≡◌, Bool, List, ℕ, ltb}
use Rattle.arm.specs.declared.Ins.{Ins}
use Rattle.arm.specs.Ins.{is_conditional}
use Rattle.base.specs.Choice.{pick, either}
use Rattle.context.specs.declared.State.{State}
use Rattle.context.specs.declared.Stepped.{Stepped}
use Rattle.context.specs.Context.{Context, Step, raising}
use Rattle.context.specs.State.{World, Holds, Settles, context_of, progressed}
use Rattle.walk.specs.declared.Progress.{Progress}

abbrev pub raises_by : Ins → Bool → Progress → Bool
raises_by i inside p = either inside (either (is_conditional i.cond) (ltb p.address p.jump_table_end_address))

abbrev pub raised_by : Ins → Bool → State → State
raised_by i inside s = progressed (pick (raises_by i inside s.progress) (raising i.target s.progress) s.progress) s

-- what a block does wherever these maps of labels and pools stand
abbrev pub DoesOver : List (List ℕ) → List (List ℕ) → (Context → Step) → State → Stepped → Type 0
DoesOver labels pools block s r =
    (l : World) → labels ≡ (context_of s l).maps.labels → pools ≡ (context_of s l).maps.pools → Holds s.counts l
    → Settles s.progress.address s.call r l (block (context_of s l))
