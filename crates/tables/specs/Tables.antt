-- What a search among the inline tables promises, data that the walk skips, and a step that may be refused.
-- Assumes nothing.
use Rattle.std.specs.Prelude.{◌≡◌, List, [], ◌∷◌, ℕ, ltb, Option, Some, None, Result, Ok, Err}
use Rattle.std.proofs.Math.Option.{none, some}
use Rattle.base.specs.Choice.{pick}
use Rattle.base.specs.declared.refusal.Refusal.{Refusal}
use Rattle.base.specs.declared.refusal.Refusal.TheVariants.{Beyond32Bits}
use Rattle.context.specs.Blocks.{inline_table_at}
use Rattle.context.specs.Context.{Context, Step, on, goes, refuses, going_to, table_row}
use Rattle.rows.specs.Map.{Entering}

-- r is the first table that holds the address a
abbrev pub Finds : ℕ → List (List ℕ) → Option (List ℕ) → Type 0
Finds a m (Some table) = inline_table_at a m ≡ some table
Finds a m None = inline_table_at a m ≡ none

-- a table's end, where it is one of 32 bits
abbrev pub table_data : ℕ → Result (Option ℕ) Refusal
table_data end = pick (ltb end 0x1_0000_0000) (Ok (Some end)) (Err Beyond32Bits)

-- the walk goes on behind the data
abbrev pub skipped : Result (Option ℕ) Refusal → Context → Step
skipped (Ok None) c = on c
skipped (Ok (Some a)) c = goes (going_to a c)
skipped (Err r) c = refuses r 0

-- the refusal, if there is one, else the step
abbrev pub unless_refused : Option Refusal → Step → Step
unless_refused None step = step
unless_refused (Some r) step = refuses r 0

-- the table that was found enters its list; without one all is as it was
abbrev pub EnteringFound : ℕ → List ℕ → Option (ℕ × ℕ) → Result ℕ Refusal → List ℕ → Type 0
EnteringFound n list (Some (address, size)) r after = Entering table_row n list (address ∷ size ∷ []) r after
EnteringFound n list None r after = (r ≡ Ok n) × (after ≡ list)
