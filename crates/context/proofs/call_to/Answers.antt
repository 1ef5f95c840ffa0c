-- `context::call_to` meets its contract.
use Rattle.base.proofs.Prelude.{◌∙◌, ap}
use Rattle.context.proofs.Laws.{call-comes, onwards}
use Rattle.context.proofs.call_to.Goals as goal

pub returns : goal.returns
returns c = λ l h. call-comes c.args.parsed.ins c.args.s c.args.parsed.word c.args.mode l (c.on.ensures ∙ ap onwards c.with_call.ensures) h
