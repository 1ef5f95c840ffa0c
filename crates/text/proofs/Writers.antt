-- What a writer has written.
-- Assumes nothing.
use Rattle.base.proofs.Prelude.{◌∙◌, refl, List, [], ◌++◌, ℕ}
use Rattle.text.specs.declared.writer.Writer.{Writer}
use Rattle.text.specs.Writers.{Wrote}
use Rattle.text.proofs.Put.{written_none, written_then}

-- two pieces, one after the other, are one
pub wrote_then : {u v w : Writer} {s t : List ℕ} → Wrote u v s → Wrote v w t → Wrote u w (s ++ t)
wrote_then {u} a b = record { same = b.same ∙ a.same; long = b.long ∙ a.long; text = written_then a.text b.text u.within }

-- nothing is written yet
pub wrote_none : (w : Writer) → Wrote w w []
wrote_none w = record { same = refl; long = refl; text = written_none _ _ }
