-- Text written into a buffer, and what each writer ensures.
-- Assumes nothing.
use Rattle.std.specs.Prelude.{◌≡◌, List, ◌++◌, ℕ, ◌+◌, length, take, drop}

-- the list l with the bytes t written at place at
unfoldable pub put : List ℕ → ℕ → List ℕ → List ℕ
put l at t = take at l ++ (t ++ drop (at + length t) l)

-- a writer put t at place at, and r is the place after it
pub record Written (before : List ℕ) (at : ℕ) (t : List ℕ) (r : ℕ) (after : List ℕ) : Type 0 where
  pub next : r ≡ at + length t
  pub text : after ≡ put before at t
