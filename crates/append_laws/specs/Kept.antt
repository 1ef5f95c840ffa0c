-- A table that is not refused by 4 is not refused by 4 with a function behind it.
-- Assumes nothing.
use Rattle.std.specs.Prelude.{◌≡◌, Bool, true, Ok}
use Rattle.context.specs.Lists.{maps_in, Lists as Walked}
use Rattle.table.specs.Held.{is_sound}
use Rattle.walk.specs.declared.Counts.{Counts}
use Rattle.walk.specs.declared.Record.{Record}
use Rattle.append.specs.Append.{Lent, answer, appended}

-- no count is above its list, and the table ascends
abbrev pub holds_table : Lent → Bool
holds_table t = is_sound t.count t.functions t.lists

abbrev pub Kept : Record → Counts → Walked → Lent → Type 0
Kept r n l t = holds_table t ≡ true → answer r n l t ≡ Ok tt → holds_table (appended r n (maps_in n l) t) ≡ true
