-- What a step's code comes to: the walk after it.
-- Assumes nothing.
use Rattle.std.specs.Prelude.{Bool, true, false, ℕ, None}
use Rattle.base.specs.declared.refusal.Refusal.{Refusal}
use Rattle.context.specs.declared.State.{State}
use Rattle.context.specs.declared.Then.{Then}
use Rattle.context.specs.declared.Then.TheVariants.{On, Goes, Ends, Refuses}
use Rattle.context.specs.Context.{counting, moving}
use Rattle.context.specs.State.{progressed}
use Rattle.context.specs.Turn.{bytes_to_end}
use Rattle.registers.specs.declared.Registers.{Registers}
use Rattle.walk.specs.declared.Answer.{Answer}
use Rattle.walk.specs.declared.Answer.TheVariants.{Going, Accepted, Refused}
use Rattle.walk.specs.declared.Counts.{Counts}
use Rattle.walk.specs.declared.Options.{Options}
use Rattle.walk.specs.declared.Progress.{Progress}
use Rattle.walk.specs.declared.Walk.{Walk}
use Rattle.walk.specs.IntoFunction.{into_function}

-- the state before a step
abbrev pub state_of : Walk → State
state_of w = record {
  next = w.progress.address;
  progress = w.progress;
  machines = w.machines;
  counts = w.counts;
  call = None;
}

abbrev pub walk_in : Answer → Registers → State → Walk
walk_in result g s = record { progress = s.progress; machines = s.machines; registers = g; counts = s.counts; result = result }

abbrev pub with_counts : Counts → Walk → Walk
with_counts n w = record { progress = w.progress; machines = w.machines; registers = w.registers; counts = n; result = w.result }

-- the walk as it was, but for these counts and its result
abbrev pub refused_walk : Walk → Counts → Refusal → ℕ → ℕ → Walk
refused_walk w n refusal a r = record {
  progress = w.progress;
  machines = w.machines;
  registers = w.registers;
  counts = n;
  result = Refused refusal a r;
}

-- into_function, with the first pool, from the last instruction's end
abbrev pub record_at : Options → ℕ → ℕ → Progress → Answer
record_at o pool end p = into_function o p.start end p.last_pool_address pool p.saved_registers

-- the walk at the last instruction's end, from where it stood before the step
abbrev pub ends_at : Options → Progress → ℕ → ℕ → Registers → State → Walk
ends_at o before pool end g s =
    walk_in (record_at o pool end s.progress) g
    (progressed (counting (bytes_to_end (record_at o pool end s.progress) end before) (moving end s.progress.previous s.progress)) s)

-- the code's `settle`, with the first pool
abbrev pub settles : Options → Walk → ℕ → Then → Registers → State → Walk
settles o w pool On g s = walk_in Going g s
settles o w pool Goes g s = walk_in Going g s
settles o w pool (Ends end) g s = ends_at o w.progress pool end g s
settles o w pool (Refuses n r) g s = refused_walk w s.counts n w.progress.address r

abbrev pub is_refused : Answer → Bool
is_refused Going = false
is_refused (Accepted r) = false
is_refused (Refused n a r) = true
