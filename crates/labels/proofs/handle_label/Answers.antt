-- `labels::handle_label` meets its contract.
use Rattle.labels.proofs.Laws.{label-full, label-in, at_label}
use Rattle.labels.proofs.handle_label.Goals as goal

pub returns-in-Err : goal.returns-in-Err
returns-in-Err c =
    label-full c.args.parsed.ins c.args.s c.args.parsed.size c.args.inside (c.args.pools.now) c.enter.auto.list c.in-Err.ensures c.refuse.ensures

pub past_pools-requires : goal.past_pools-requires
past_pools-requires c =
    at_label c.args.parsed.ins c.args.inside c.args.s c.args.parsed.size c.count_labels-t.ensures c.label_raised.ensures c.requires.2

pub returns-in-Ok : goal.returns-in-Ok
returns-in-Ok c =
    label-in c.args.parsed.ins c.args.s c.args.parsed.size c.args.inside (c.args.pools.now) c.enter.auto.list c.in-Ok.ensures
    c.count_labels-t.ensures c.label_raised.ensures c.new-labels.ensures c.new-pools.ensures c.past_pools.ensures
