-- `values::check_defined` meets its contract.
use Rattle.base.proofs.Prelude.{◌∙◌, sym, refl}
use Rattle.context.specs.Blocks.{check_defined}
use Rattle.values.proofs.Laws.{register-is, no-register}
use Rattle.values.proofs.check_defined.Goals as goal

pub returns-in-Some : goal.returns-in-Some
unfolding check_defined
returns-in-Some c =
    let register = register-is (sym c.undefined_register.ensures ∙ c.in-Some.is) in
    λ l h. rw (register.0, register.1) (record { stays = refl; call = refl; holds = h; says = refl })

pub returns : goal.returns
unfolding check_defined
returns c =
    λ l h. rw (c.on.ensures, c.define.ensures, no-register _ (sym c.undefined_register.ensures ∙ c.in_default.is), ← c.defined_after-defined.ensures)
    (record { stays = refl; call = refl; holds = h; says = refl })
