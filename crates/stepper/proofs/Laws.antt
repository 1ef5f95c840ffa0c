-- What a call leaves: after a turn of the loop, and where it was refused.
-- Assumes nothing.
use Rattle.base.proofs.Prelude.{◌≡◌, ap, ◌≤◌, ◌+◌, length}
use Rattle.std.specs.Prelude.{Ok}
use Rattle.context.specs.declared.Module.{Module}
use Rattle.context.specs.Lists.{Lists, AllHeld, Sound}
use Rattle.context.specs.Turn.{Turned}
use Rattle.turn.specs.Turning.{Turns}
use Rattle.turn.proofs.Laws.{turns-written}
use Rattle.validity.specs.Validity.{step_check}
use Rattle.validity.proofs.Laws.{number_passed, window-fits}
use Rattle.walk.specs.declared.Walk.{Walk}
use Rattle.stepper.specs.Stepper.{Called, turned}

pub called-turned : {r : Walk} {before after : Lists} {t : Turned} → Turns r before after t
    → Called (record { walk = r; answer = r.result }) after (turned before t)
called-turned h = record { walks = h.walks; answers = ap (λ (w : Walk). w.result) h.walks; holds = turns-written h }

-- a turn is made only where the checks passed
pub turn-may : (m : Module) (w : Walk) (l : Lists) → step_check m.options (length m.code.now) m.starts.now w l ≡ Ok tt
    → Sound m × AllHeld w.counts l × (w.progress.start + w.progress.instruction_bytes ≤ w.progress.address)
turn-may m w l e =
    let p = number_passed m.options m.code.now m.starts.now w l e in
    (record { fits = window-fits m.options (length m.code.now) p.window; ascend = p.ascends }, p.lists, p.bytes)
