-- The fields that decide a word's encoding: "is the condition 1111?", bits 27 to 20, bit 12 and bits 7 to 4. Only the contracts of the
-- decision's inner functions speak of them; `reduced` of proofs/Reduce.antt carries them to whole words.
-- Assumes nothing.
use Rattle.std.specs.Prelude.{ℕ, List, [], ◌∷◌, ◌++◌}
use Rattle.classes.specs.declared.Class.{Class}
use Rattle.encodings.specs.Diagram.{bits}
use Rattle.encodings.specs.Encodings.{encoding_on}

-- the view of the word that has these fields and zeros elsewhere
unfoldable pub view_at : ℕ → ℕ → ℕ → ℕ → List ℕ
view_at nv op odd low =
    nv ∷ bits 8 op ++ (0 ∷ 0 ∷ 0 ∷ 0 ∷ 0 ∷ 0 ∷ 0 ∷ odd ∷ 0 ∷ 0 ∷ 0 ∷ 0 ∷ bits 4 low ++ (0 ∷ 0 ∷ 0 ∷ 0 ∷ []))

-- the manual's class of that word
unfoldable pub encoding_at : ℕ → ℕ → ℕ → ℕ → Class
encoding_at nv op odd low = encoding_on (view_at nv op odd low)
