-- `take_all` meets its contract: start by start.
use Rattle.base.proofs.Prelude.{◌∙◌, refl, arith}
use lib.ListN.{length-map}
use Rattle.append.specs.Append.{lent_by}
use Rattle.module_request.specs.ModuleRequest.{start_of}
use Rattle.tabling.proofs.LoopLaws.{taken-none, taken-has, taken-ready, taken-more, taken-table, taken-lines, same-places, same-then, start-at}
use Rattle.tabling.proofs.take_all.Goals as goal

pub loop-bytes-init : goal.loop-bytes-init
loop-bytes-init c = record {
  same = record { functions = refl; labels = refl; pools = refl; jump_tables = refl; inline_tables = refl; calls = refl };
  taken = taken-none _ _ _ (lent_by c.args.table.now) _ c.requires.ready.none c.requires.ready.lends;
}

pub take-left-requires-clause-has : goal.take-left-requires-clause-has
take-left-requires-clause-has c =
    let l = c.loop-bytes.auto in
    taken-has _ _ _ _ _ _ _ _ _ c.loop-bytes.invariant.taken _ _ c.requires.ready.walk (same-places _ _ _ _ _ _ _ _ _ _ l.labels l.pools l.jump_tables l.inline_tables l.calls)

pub take-left-requires-clause-ready : goal.take-left-requires-clause-ready
take-left-requires-clause-ready c =
    let long = length-map c.args.starts.now start_of in
    let more = c.loop-bytes-test.true in
    rw (c.start_of.ensures ∙ start-at _ _ _ more)
    (taken-ready _ _ _ _ _ _ _ _ _ c.loop-bytes.invariant.taken (omega arith) (rw long c.requires.ready.rows) c.requires.ascend)

pub take-left-requires-clause-room : goal.take-left-requires-clause-room
take-left-requires-clause-room c =
    let taken = c.loop-bytes.invariant.taken in
    let more = c.loop-bytes-test.true in
    omega (arith, taken.at, taken.wrote.long, c.requires.room)

pub loop-bytes-preserved : goal.loop-bytes-preserved
loop-bytes-preserved c =
    let long = length-map c.args.starts.now start_of in
    let more = c.loop-bytes-test.true in
    let at = c.start_of.ensures ∙ start-at _ _ _ more in
    let took = rw at at c.take-left.ensures.took in
    let line = rw at at c.take-left.ensures.line in
    record {
      same = same-then c.loop-bytes.invariant.same c.take-left.ensures.same;
      taken = taken-more _ _ _ _ _ _ _ _ _ c.loop-bytes.invariant.taken (omega arith) _ _ _ took line.0 line.1;
    }

pub returns-clause-same : goal.returns-clause-same
returns-clause-same c = c.loop-bytes.invariant.same

pub returns-clause-sound : goal.returns-clause-sound
returns-clause-sound c = c.loop-bytes.invariant.taken.kept.sound

pub returns-clause-table : goal.returns-clause-table
returns-clause-table c =
    let long = length-map c.args.starts.now start_of in
    taken-table _ _ _ _ _ _ _ _ _ c.loop-bytes.invariant.taken (omega (arith, c.loop-bytes-test.false))

pub returns-clause-lines : goal.returns-clause-lines
returns-clause-lines c =
    let long = length-map c.args.starts.now start_of in
    let taken = c.loop-bytes.invariant.taken in
    (taken-lines _ _ _ _ _ _ _ _ _ taken (omega (arith, c.loop-bytes-test.false)), omega (arith, taken.at))
