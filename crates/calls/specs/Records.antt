-- A list of calls as records: their numbers one after another are a list of rows, what the records tell of it, and a change of them.
-- Assumes nothing.
use Rattle.std.specs.Prelude.{◌≡◌, Bool, false, ◌&&◌, ◌||◌, List, [], ◌∷◌, map, ℕ, zero, suc, ◌+◌, eqb, ltb, leb, length, take}
use Rattle.base.specs.Choice.{pick}
use Rattle.context.specs.Context.{call_row}
use Rattle.context.specs.Blocks.{is_destination}
use Rattle.rows.specs.Map.{key_of, flat, in_order, Held, Entering}
use Rattle.rows.specs.Rows.{rank, stands}
use Rattle.calls.specs.declared.Call.{Call}
use Rattle.calls.specs.declared.told.Edit.{Edit}
use Rattle.calls.specs.declared.told.Entry.{Entry}
use Rattle.calls.specs.declared.told.Told.{Told}

abbrev pub row_of : Call → List ℕ
row_of c = c.address ∷ c.word ∷ c.destination ∷ c.mode ∷ []

abbrev pub numbers_of : List Call → List ℕ
numbers_of calls = flat (map row_of calls)

-- the rows of the first so many
abbrev pub rows_in : ℕ → List Call → List (List ℕ)
rows_in count calls = take count (map row_of calls)

-- ---- what the records tell, from the last to the first

abbrev pub is_none : Call → Bool
is_none c = eqb c.address 0 && eqb c.word 0 && eqb c.destination 0 && eqb c.mode 0

-- a record behind the calls, at place i
abbrev pub passed_by : Told → ℕ → Call → Told
passed_by t i c = record {
  count = t.count;
  address = t.address;
  places = t.places;
  next = t.next;
  is_ordered = is_none c && t.is_ordered;
  is_called = t.is_called;
  at = i;
  is_held = t.is_held;
}

-- a call: it is the last or has a lower address than the next, and those at or above the address asked for begin with it
abbrev pub met_by : Told → ℕ → Call → Told
met_by t i c = record {
  count = t.count;
  address = t.address;
  places = t.places;
  next = c.address;
  is_ordered = (leb t.count (i + 1) || ltb c.address t.next) && t.is_ordered;
  is_called = eqb c.destination (t.address + 4) || t.is_called;
  at = pick (ltb c.address t.address) t.at i;
  is_held = pick (ltb c.address t.address) t.is_held (eqb c.address t.address);
}

unfoldable pub seen_by : Told → ℕ → Call → Told
seen_by t i c = pick (leb t.count i) (passed_by t i c) (met_by t i c)

-- what all records tell of a list of `count` calls for an address
pub record Tells (calls : List Call) (count address : ℕ) (t : Told) : Type 0 where
  pub counts : t.count ≡ count
  pub places : t.places ≡ length calls
  pub ordered : t.is_ordered ≡ in_order call_row count (numbers_of calls)
  pub called : t.is_called ≡ is_destination (address + 4) (rows_in count calls)
  pub place : t.at ≡ rank key_of address (rows_in count calls)
  pub held : t.is_held ≡ stands key_of address (rows_in count calls)

-- ---- a change of the records

-- `call` stands at place `from`, and those from there to `end` move up by one, the last away; or, where nothing moves, it stands at each
unfoldable pub rewritten : Bool → Call → ℕ → ℕ → List Call → List Call
rewritten moves call from end [] = []
rewritten moves call from zero (c ∷ cs) = c ∷ cs
rewritten moves call zero (suc end) (c ∷ cs) = call ∷ rewritten moves (pick moves c call) zero end cs
rewritten moves call (suc from) (suc end) (c ∷ cs) = c ∷ rewritten moves call from end cs

abbrev pub edited : Edit → List Call → List Call
edited e calls = rewritten e.moves e.call e.from e.end calls

abbrev pub none : Call
none = record { address = 0; word = 0; destination = 0; mode = 0 }

-- zeros up to a place; up to the first nothing changes
abbrev pub clearing : ℕ → Edit
clearing end = record { from = 0; end = end; call = none; moves = false }

-- of every list of calls that tells t, the change makes what entering the call comes to
abbrev pub Enters : Told → Call → Entry → Type 0
Enters t call r =
    (calls : List Call) (n : ℕ) → Tells calls n call.address t → Held call_row n (numbers_of calls)
    → Entering call_row n (numbers_of calls) (row_of call) r.entered (numbers_of (edited r.edit calls))
