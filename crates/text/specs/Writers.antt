-- What a method of a writer asks for and ensures.
-- Assumes nothing.
use Rattle.std.specs.Prelude.{◌≡◌, ◌≤◌, ◌+◌, List, ℕ, length}
use Rattle.text.specs.Put.{Written}
use Rattle.text.specs.declared.writer.Writer.{Writer}

-- n bytes more have room
abbrev pub HasRoom : Writer → ℕ → Type 0
HasRoom w n = w.at + n ≤ length w.out.now

-- the text t was put, into the same buffer
pub record Wrote (before after : Writer) (t : List ℕ) : Type 0 where
  pub same : after.out.ghost_name ≡ before.out.ghost_name
  pub long : length after.out.now ≡ length before.out.now
  pub text : Written before.out.now before.at t after.at after.out.now
