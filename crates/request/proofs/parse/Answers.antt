-- `parse` meets its contract.
use Rattle.base.proofs.Prelude.{◌∙◌, sym}
use Rattle.request.specs.Request.{parsed}
use Rattle.request.proofs.RequestLaws.{request-length}
use Rattle.request.proofs.parse.Goals as goal

pub fields-requires : goal.fields-requires
fields-requires c = request-length _ (sym c.is_request.ensures ∙ c.if-is_request.true)

pub returns-then-is_request : goal.returns-then-is_request
unfolding parsed
returns-then-is_request c = rw (sym c.is_request.ensures ∙ c.if-is_request.true, c.fields.ensures)

pub returns-else-is_request : goal.returns-else-is_request
unfolding parsed
returns-else-is_request c = rw (sym c.is_request.ensures ∙ c.if-is_request.false)
