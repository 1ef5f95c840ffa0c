-- `values::mark` meets its contract.
use Rattle.base.proofs.Prelude.{◌∙◌, sym, arith, rules}
use Rattle.values.proofs.Laws.{found_within, mark-found, mark-missing}
use Rattle.values.proofs.mark.Goals as goal

pub offset_bounds-held-k : goal.offset_bounds-held-k
offset_bounds-held-k c =
    let at = sym c.index_of.ensures ∙ c.in-Some.is in
    let within = found_within _ _ at in
    search (rules, arith)

pub bounds-held-k : goal.bounds-held-k
bounds-held-k c =
    let at = sym c.index_of.ensures ∙ c.in-Some.is in
    found_within _ _ at

pub returns-in-Some : goal.returns-in-Some
returns-in-Some c =
    let at = rw c.new-held.ensures at (sym c.index_of.ensures ∙ c.in-Some.is) in
    mark-found c.requires c.args.address at (rw c.new-held.ensures) (rw c.into.ensures at c.enter.ensures)

pub returns-in_default : goal.returns-in_default
returns-in_default c =
    mark-missing c.requires c.args.address (rw c.new-held.ensures at (sym c.index_of.ensures ∙ c.in_default.is))
