-- functions.rs, function_parser_loop_inner without its start check: one turn of the loop, from the word at the walk's address to the walk and
-- the maps after it.
-- Assumes nothing.
use Rattle.std.specs.Prelude.{[], ℕ, ◌+◌, eqb, length}
use Rattle.arm.specs.declared.Ins.{Ins}
use Rattle.arm.specs.Ins.{decode_of}
use Rattle.base.specs.Choice.{pick}
use Rattle.std.specs.Prelude.{Option, Some, None}
use Rattle.base.specs.declared.refusal.Refusal.TheVariants.{NoEpilogue}
use Rattle.base.specs.Words.{word_from}
use Rattle.predicates.specs.Predicates.{saved_registers}
use Rattle.rows.specs.Map.{first_key}
use Rattle.walk.specs.declared.Answer.{Answer}
use Rattle.walk.specs.declared.Answer.TheVariants.{Going, Accepted, Refused}
use Rattle.walk.specs.declared.Counts.{Counts}
use Rattle.walk.specs.declared.Progress.{Progress}
use Rattle.walk.specs.declared.Walk.{Walk}
use Rattle.walk.specs.IntoFunction.{into_function}
use Rattle.context.specs.Blocks.{handle_ins}
use Rattle.context.specs.Context.{Maps, Given, Context, Step, on, goes, ends, refuses, with_progress, saving, counting, moving}

-- an ARM instruction's bytes
abbrev pub arm_size : ℕ
arm_size = 4

abbrev pub no_maps : Maps
no_maps = record { labels = []; pools = []; jump_tables = []; inline_tables = []; calls = [] }

abbrev pub counts_of : Maps → Counts
counts_of m = record { labels = length m.labels; pools = length m.pools; jump_tables = length m.jump_tables; inline_tables = length m.inline_tables; calls = length m.calls }

abbrev pub context_at : Given → Walk → Maps → Context
context_at g w m = record { given = g; next = w.progress.address; progress = w.progress; machines = w.machines; registers = w.registers; maps = m }

pub record Turned : Type 0 where
  pub walk : Walk
  pub maps : Maps

-- a walk with this result and these maps
abbrev pub walk_of : Answer → Context → Turned
walk_of result c = record {
  walk = record { progress = c.progress; machines = c.machines; registers = c.registers; counts = counts_of c.maps; result = result };
  maps = c.maps;
}

-- a refusal that ends the walk leaves no entries
abbrev pub emptied : Context → Context
emptied c = record { given = c.given; next = c.next; progress = c.progress; machines = c.machines; registers = c.registers; maps = no_maps }

abbrev pub closed : Answer → Context → Turned
closed Going c = walk_of Going c
closed (Accepted r) c = walk_of (Accepted r) c
closed (Refused n a r) c = walk_of (Refused n a r) (emptied c)

-- a key's address, 0 where there is none
abbrev pub key_or0 : Option ℕ → ℕ
key_or0 (Some a) = a
key_or0 None = 0

-- what the first instruction saves: at the start it is this one, and from then on it stays
abbrev pub saved_first : Ins → Progress → ℕ
saved_first i p = pick (eqb p.address p.start) (saved_registers i) p.saved_registers

abbrev pub with_saved : Ins → Context → Context
with_saved i c = with_progress (saving (saved_first i c.progress) c.progress) c

-- into_function, from a last instruction's end
abbrev pub function_of : ℕ → Context → Answer
function_of end c =
    into_function c.given.options c.progress.start end c.progress.last_pool_address (key_or0 (first_key c.maps.pools)) c.progress.saved_registers

-- the sum with the last instruction, but not where the walk stops before it, as the entry of the next function, nor where it is refused
abbrev pub bytes_to_end : Answer → ℕ → Progress → ℕ
bytes_to_end Going end p = p.instruction_bytes
bytes_to_end (Accepted r) end p = pick (eqb end p.address) p.instruction_bytes (p.instruction_bytes + arm_size)
bytes_to_end (Refused n a r) end p = p.instruction_bytes

-- the walk stands at the last instruction's end
abbrev pub ending_at : Context → ℕ → Context → Context
ending_at before end c = record {
  given = c.given;
  next = c.next;
  progress = counting (bytes_to_end (function_of end c) end before.progress) (moving end c.progress.previous c.progress);
  machines = c.machines;
  registers = c.registers;
  maps = c.maps;
}

-- what a step comes to; a refused one leaves the walk as it was, but for its result and its entries
abbrev pub settled : Context → Step → Turned
settled before (on c) = walk_of Going c
settled before (goes c) = walk_of Going c
settled before (ends end c) = closed (function_of end c) (ending_at before end c)
settled before (refuses n r) = closed (Refused n before.progress.address r) before

-- an instruction: what the first one saves, which the source does not ask, before what can skip it or end the walk; then handle_ins
abbrev pub step_of : Ins → ℕ → Context → Step
step_of i word c = handle_ins i word arm_size (with_saved i c)

abbrev pub turn_at : Option ℕ → Context → Turned
turn_at (Some word) c = settled c (step_of (decode_of word c.progress.address) word c)
turn_at None c = closed (Refused NoEpilogue 0 0) c

unfoldable pub turn : Given → Walk → Maps → Turned
turn g w m = turn_at (word_from g.code g.options.base w.progress.address) (context_at g w m)
