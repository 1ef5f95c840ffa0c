-- `handle_ins::handle_ins_inner` meets its contract.
use Rattle.base.proofs.Prelude.{◌∙◌, sym}
use Rattle.lists.specs.Lists.{lists_of}
use Rattle.handle_ins.proofs.Laws.{inner_first, inner-stops, inner-goes, below}
use Rattle.handle_ins.proofs.handle_ins_inner.Goals as goal

pub returns-then-not-is_on-clause-inner : goal.returns-then-not-is_on-clause-inner
returns-then-not-is_on-clause-inner g c =
    inner-stops c.args.m c.args.parsed c.args.s c.args.registers.now (lists_of g.C.CallList.numbers c.args.lists.now) c.requires.1 c.to_return-r.ensures
    (sym c.is_on.ensures ∙ c.if-not-is_on.true)

pub is_called_next-is_called-requires : goal.is_called_next-is_called-requires
is_called_next-is_called-requires g c =
    let first = inner_first c.args.m c.args.parsed c.args.s c.args.registers.now (lists_of g.C.CallList.numbers c.args.lists.now) c.requires.1 c.to_return-r.ensures in
    (c.requires.1.calls, below c.args.parsed.size first.stays c.requires.4)

pub from_return-loaded-requires : goal.from_return-loaded-requires
from_return-loaded-requires g c =
    let first = inner_first c.args.m c.args.parsed c.args.s c.args.registers.now (lists_of g.C.CallList.numbers c.args.lists.now) c.requires.1 c.to_return-r.ensures in (
      c.requires.2,
      first.holds.labels,
      first.holds.pools,
      first.holds.inline_tables,
      below c.args.parsed.size first.stays c.requires.4,
      first.call ∙ c.requires.0,
    )

pub returns-clause-inner : goal.returns-clause-inner
returns-clause-inner g c =
    rw (c.load_into.ensures, c.forget.ensures)
    (inner-goes c.args.m c.args.parsed c.args.s c.args.registers.now (lists_of g.C.CallList.numbers c.args.lists.now) c.requires.1 c.to_return-r.ensures c.from_return-loaded.result c.requires.0 (sym c.is_on.ensures ∙ c.if-not-is_on.false) c.in_conditional_block-inside.ensures c.is_return-returns.ensures c.is_called_next-is_called.ensures c.from_return-loaded.ensures)
