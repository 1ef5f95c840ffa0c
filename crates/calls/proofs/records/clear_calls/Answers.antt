-- `records::clear_calls` meets its contract. The calls' places are filled, and those after them were zero.
use Rattle.base.proofs.Prelude.{◌≡◌, length, take, replicate, length-take-le, rules}
use Rattle.calls.specs.Records.{none}
use Rattle.calls.proofs.RecordLaws.{held-room, cleared}
use Rattle.calls.proofs.records.clear_calls.Goals as goal

pub returns : goal.returns
returns c =
    let calls = c.args.calls.now in
    let filled : c.fill.new.self ≡ replicate (length (take c.args.count calls)) none = search rules in
    let long = length-take-le c.args.count calls (held-room calls c.requires) in
    rw (filled, long) (cleared calls c.requires)
