-- `handle_ins::handle_ins` meets its contract.
use Rattle.lists.specs.Lists.{lists_of}
use Rattle.handle_ins.proofs.Laws.{handles-ins}
use Rattle.handle_ins.proofs.handle_ins.Goals as goal

pub returns-clause-handles : goal.returns-clause-handles
returns-clause-handles g c =
    handles-ins c.args.m c.args.parsed c.args.s c.args.registers.now (lists_of g.C.CallList.numbers c.args.lists.now) c.requires.0 (rw c.goto-ready.ensures at c.handle_ins_inner-r.ensures.inner) (rw (← c.with_entry.ensures, c.handle_ins_inner-r.ensures.calls) at c.put_call-entered.ensures.stored) (rw c.handle_ins_inner-r.ensures.calls at c.put_call-entered.ensures.places) c.pass.ensures
