-- `branches::function_call` meets its contract.
use Rattle.base.proofs.Prelude.{refl, ◌≡◌, ℕ}
use Rattle.std.specs.Prelude.{Some}
use Rattle.arm.specs.declared.Ins.{Ins}
use Rattle.predicates.specs.declared.Mode.{Mode}
use Rattle.predicates.specs.declared.Mode.TheVariants.{Arm, Thumb, Other}
use Rattle.predicates.specs.Predicates.{mode_no}
use Rattle.context.specs.Blocks.{call_to, called_as, function_call}
use Rattle.context.specs.Context.{Context}
use Rattle.context.proofs.Laws.{settled}
use Rattle.branches.proofs.function_call.Goals as goal

-- a call is put in with its mode's number
by_number : (i : Ins) (word : ℕ) (m : Mode) (x : Context) → call_to i word (mode_no m) x ≡ called_as i word (Some m) x
by_number i word Arm x = refl
by_number i word Thumb x = refl
by_number i word (Other mode) x = refl

pub returns-in-Some : goal.returns-in-Some
unfolding function_call
returns-in-Some c = λ l h. rw (← c.is_function_call.ensures, c.in-Some.is) (rw (by_number c.args.parsed.ins c.args.parsed.word c.in-Some.mode) at (c.call_to.ensures l h))

pub returns-in-None : goal.returns-in-None
unfolding function_call
returns-in-None c = λ l h. rw (c.on.ensures, ← c.is_function_call.ensures, c.in-None.is) (settled (record { stays = refl; call = refl; holds = h; says = refl }))
