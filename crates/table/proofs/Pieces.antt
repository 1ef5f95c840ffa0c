-- A text that is put piece by piece: one for each element of a list.
-- Assumes nothing.
use Rattle.base.proofs.Prelude.{◌≡◌, List, [], ◌∷◌, ◌++◌, append-nil, ◌≤◌, ◌<◌, ℕ, ◌+◌, arith, length, get_or, take, length-append}
use Rattle.std.proofs.lemmas.Grind.{flat_map-append}
use Rattle.std.proofs.lemmas.List.{take_all, take_more}
use Rattle.std.proofs.lemmas.List.Folds.{length-flat_map-take}
use Rattle.std.specs.List.{flat_map}
use Rattle.text.specs.declared.writer.Writer.{Writer}
use Rattle.text.specs.Writers.{HasRoom, Wrote}
use Rattle.text.proofs.Writers.{wrote_then}

module _ {X : Type 0} (f : X → List ℕ) (xs : List X) where
  pub pieces_more : (i : ℕ) (d : X) → i < length xs → flat_map f (take (i + 1) xs) ≡ flat_map f (take i xs) ++ f (get_or xs i d)
  pieces_more i d h =
      rw (take_more xs i d h, flat_map-append f (take i xs) (get_or xs i d ∷ []), append-nil (f (get_or xs i d)))

  module _ {u v : Writer} (i : ℕ) (before : Wrote u v (flat_map f (take i xs))) where
    -- one piece more
    pub wrote_more : {w : Writer} (d : X) → i < length xs → Wrote v w (f (get_or xs i d)) → Wrote u w (flat_map f (take (i + 1) xs))
    wrote_more d h piece = rw (pieces_more i d h) (wrote_then before piece)

    -- which has room where all have
    pub room_more : (d : X) → i < length xs → HasRoom u (length (flat_map f xs)) → HasRoom v (length (f (get_or xs i d)))
    room_more d h room =
        let part = length-flat_map-take f xs i d h in
        let next = before.text.next in
        let long = before.long in
        omega arith

    -- and no piece is left
    pub wrote_all : length xs ≤ i → Wrote u v (flat_map f xs)
    wrote_all h = rw (take_all i xs h) at before

-- what is behind a piece has room where both have
pub room_then : {u v : Writer} {s : List ℕ} (t : List ℕ) → Wrote u v s → HasRoom u (length (s ++ t)) → HasRoom v (length t)
room_then {s = s} t w room =
    let both = length-append s t in
    let next = w.text.next in
    let long = w.long in
    omega arith

-- and so has the first alone
pub room_first : (u : Writer) (s t : List ℕ) → HasRoom u (length (s ++ t)) → HasRoom u (length s)
room_first u s t room = let both = length-append s t in omega arith
