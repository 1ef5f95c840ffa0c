-- `branches::branch` meets its contract.
use Rattle.base.proofs.Prelude.{◌∙◌, sym}
use Rattle.branches.proofs.BranchLaws.{at-branch, branch-not, branch-label, branch-end, branch-call}
use Rattle.branches.proofs.branch.Goals as goal

pub returns-then-not-is_branch : goal.returns-then-not-is_branch
returns-then-not-is_branch c =
    branch-not c.args.m c.args.parsed.ins c.args.s c.args.parsed.word c.args.parsed.size c.args.inside
    (c.args.labels.now) (c.args.pools.now) c.branched-t.ensures
    (sym c.is_branch.ensures ∙ c.if-not-is_branch.true) c.on.ensures

pub handle_label-requires : goal.handle_label-requires
handle_label-requires c =
    at-branch c.args.s c.args.parsed.size c.branched-t.ensures (c.requires.1, c.requires.2, c.requires.3)

pub returns-then-is_label : goal.returns-then-is_label
returns-then-is_label c =
    branch-label c.args.m c.args.parsed.ins c.args.s c.args.parsed.word c.args.parsed.size c.args.inside
    (c.args.labels.now) (c.args.pools.now) c.branched-t.ensures
    (sym c.is_branch.ensures ∙ c.if-not-is_branch.false) c.is_in-in_module.ensures c.is_label.ensures
    c.if-is_label.true c.handle_label.ensures

pub returns-then-is_last : goal.returns-then-is_last
returns-then-is_last c =
    branch-end c.args.m c.args.parsed.ins c.args.s c.args.parsed.word c.args.parsed.size c.args.inside
    (c.args.labels.now) (c.args.pools.now) c.branched-t.ensures
    (sym c.is_branch.ensures ∙ c.if-not-is_branch.false) c.is_in-in_module.ensures c.is_label.ensures
    c.if-is_label.false c.is_conditional-conditional.ensures c.is_last.ensures
    c.if-is_last.true c.end.ensures

pub returns : goal.returns
returns c =
    branch-call c.args.m c.args.parsed.ins c.args.s c.args.parsed.word c.args.parsed.size c.args.inside
    (c.args.labels.now) (c.args.pools.now) c.branched-t.ensures
    (sym c.is_branch.ensures ∙ c.if-not-is_branch.false) c.is_in-in_module.ensures c.is_label.ensures
    c.if-is_label.false c.is_conditional-conditional.ensures c.is_last.ensures
    c.if-is_last.false c.call_to.ensures
