-- `parse` meets its contract.
use Rattle.base.proofs.Prelude.{◌∙◌, sym, ap, ◌≡◌, map, List, ℕ, Bool}
use Rattle.rows.specs.Order.{ascending}
use Rattle.module_request.specs.ModuleRequest.{refused, start_of}
use Rattle.module_request.proofs.Laws.{request-fits}
use Rattle.module_request.proofs.parse.Goals as goal

pub returns-then-not-is_request : goal.returns-then-not-is_request
unfolding refused
returns-then-not-is_request c = rw (sym c.is_request.ensures ∙ c.if-not-is_request.true)

pub fields-asked-requires : goal.fields-asked-requires
fields-asked-requires c = (request-fits _ (sym c.if-not-is_request.ensures)).there

pub returns-then-not-is_ascending : goal.returns-then-not-is_ascending
unfolding refused
returns-then-not-is_ascending c =
    rw (sym c.if-not-is_request.ensures, ap (λ (b : List (List ℕ)). ascending (map start_of b)) (sym c.fields-asked.ensures.starts) ∙ sym c.if-not-is_ascending.ensures)

pub returns : goal.returns
unfolding refused
returns c = (
  rw (sym c.if-not-is_request.ensures, ap (λ (b : List (List ℕ)). ascending (map start_of b)) (sym c.fields-asked.ensures.starts) ∙ sym c.if-not-is_ascending.ensures),
  c.fields-asked.ensures,
)
