-- The invariant: so many starts are taken.
use Rattle.base.proofs.Prelude.{map}
use Rattle.append.specs.Append.{lent_by, IsSame}
use Rattle.module_request.specs.ModuleRequest.{start_of}
use Rattle.tabling.proofs.LoopLaws.{Taken}
use Rattle.tabling.proofs.take_all.Given as goal

abbrev pub invariant-loop-bytes : goal.invariant-loop-bytes
invariant-loop-bytes l = record {
  same : IsSame l.initial.table l.table;
  taken : Taken l.m.options l.m.code.now (map start_of l.starts) (lent_by l.initial.table) l.initial.errors l.bytes-index (lent_by l.table) l.left l.errors;
}
