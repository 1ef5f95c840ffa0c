-- The immediate operand of a data-processing word.
-- Assumes nothing.
use Rattle.std.specs.Prelude.{ℕ, ◌+◌, ◌-◌, ◌*◌, ◌/◌, ◌%◌, ◌^◌, List, [], ◌∷◌, get_or}

-- the 32-bit v rotated right by n, which is below 32
unfoldable pub rotate_right : ℕ → ℕ → ℕ
rotate_right n v = v / 2 ^ n + v % 2 ^ n * 2 ^ (32 - n)

-- the eight bits v, rotated right by twice a field, for each field from 0 to 15 as A5.1 has them: with v as abcdefgh, the 32 bits
unfoldable pub rotations : ℕ → List ℕ
rotations v =
    -- 0: 00000000 00000000 00000000 abcdefgh
    v
    -- 1: gh000000 00000000 00000000 00abcdef
    ∷ (v / 2 ^ 2 + v % 2 ^ 2 * 2 ^ 30)
    -- 2: efgh0000 00000000 00000000 0000abcd
    ∷ (v / 2 ^ 4 + v % 2 ^ 4 * 2 ^ 28)
    -- 3: cdefgh00 00000000 00000000 000000ab
    ∷ (v / 2 ^ 6 + v % 2 ^ 6 * 2 ^ 26)
    -- 4: abcdefgh 00000000 00000000 00000000
    ∷ (v * 2 ^ 24)
    -- 5: 00abcdef gh000000 00000000 00000000
    ∷ (v * 2 ^ 22)
    -- 6: 0000abcd efgh0000 00000000 00000000
    ∷ (v * 2 ^ 20)
    -- 7: 000000ab cdefgh00 00000000 00000000
    ∷ (v * 2 ^ 18)
    -- 8: 00000000 abcdefgh 00000000 00000000
    ∷ (v * 2 ^ 16)
    -- 9: 00000000 00abcdef gh000000 00000000
    ∷ (v * 2 ^ 14)
    -- 10: 00000000 0000abcd efgh0000 00000000
    ∷ (v * 2 ^ 12)
    -- 11: 00000000 000000ab cdefgh00 00000000
    ∷ (v * 2 ^ 10)
    -- 12: 00000000 00000000 abcdefgh 00000000
    ∷ (v * 2 ^ 8)
    -- 13: 00000000 00000000 00abcdef gh000000
    ∷ (v * 2 ^ 6)
    -- 14: 00000000 00000000 0000abcd efgh0000
    ∷ (v * 2 ^ 4)
    -- 15: 00000000 00000000 000000ab cdefgh00
    ∷ (v * 2 ^ 2)
    ∷ []

-- bits 7 to 0, rotated right by twice the field in bits 11 to 8
unfoldable pub immediate : ℕ → ℕ
immediate w = get_or (rotations (w % 256)) (w / 256 % 16) 0
