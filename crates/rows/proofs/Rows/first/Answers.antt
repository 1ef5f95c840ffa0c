-- `rows::Rows::first` meets its contract. By the library's answer.
use Rattle.base.proofs.Prelude.{◌∙◌, ap}
use Rattle.std.proofs.Common.{option_map}
use Rattle.rows.specs.Map.{key_of}
use Rattle.rows.proofs.SearchLaws.{first-got}
use Rattle.rows.proofs.Rows.first.Goals as goal

pub returns-in_err-row : goal.returns-in_err-row
returns-in_err-row g c = c.from_residual.ensures ∙ ap (option_map key_of) c.in_err-row.ensures.value ∙ first-got _

pub returns : goal.returns
returns g c = ap (option_map key_of) c.in_ok-row.ensures.value ∙ first-got _
