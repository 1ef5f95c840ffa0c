-- `handling::from_load` meets its contract.
use Rattle.base.proofs.Prelude.{[], ◌∷◌, refl}
use Rattle.context.specs.Blocks.{function_call, check_defined}
use Rattle.context.specs.State.{options_in}
use Rattle.context.proofs.Laws.{settled}
use Rattle.handling.proofs.Laws.{went_on, stopped, then_may, then-puts, stop-all}
use Rattle.handling.proofs.from_load.Goals as goal

pub returns-then-not-is_on : goal.returns-then-not-is_on
returns-then-not-is_on c =
    let fs = function_call c.args.parsed.ins c.args.parsed.word ∷ check_defined c.args.parsed.ins c.args.returns ∷ [] in
    λ l h. stop-all fs (stopped c.is_on.ensures c.if-not-is_on.true) (settled (c.inline_table-r1.ensures (options_in c.args.o l) h))

pub returns-then-not-is_on-2 : goal.returns-then-not-is_on-2
returns-then-not-is_on-2 c =
    let call = function_call c.args.parsed.ins c.args.parsed.word in
    λ l h. stop-all (check_defined c.args.parsed.ins c.args.returns ∷ []) (stopped c.is_on-2.ensures c.if-not-is_on-2.true)
    (then-puts call (went_on c.is_on.ensures c.if-not-is_on.false) (settled (c.inline_table-r1.ensures (options_in c.args.o l) h)) refl c.function_call-r2.ensures)

pub returns : goal.returns
returns c =
    let call = function_call c.args.parsed.ins c.args.parsed.word in
    let check = check_defined c.args.parsed.ins c.args.returns in
    λ l h.
    let called = then-puts call (went_on c.is_on.ensures c.if-not-is_on.false) (settled (c.inline_table-r1.ensures (options_in c.args.o l) h)) refl c.function_call-r2.ensures in
    then_may check (went_on c.is_on-2.ensures c.if-not-is_on-2.false) called refl c.check_defined.ensures
