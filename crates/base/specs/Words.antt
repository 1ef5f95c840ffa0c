-- u32::from_le_slice, and the word at an address.
-- Assumes nothing.
use Rattle.std.specs.Prelude.{ℕ, ◌+◌, ◌-◌, ◌*◌, List, Option, Some, None, ltb, length, get_or, drop}
use Rattle.base.specs.Choice.{pick}

abbrev pub little_endian : ℕ → ℕ → ℕ → ℕ → ℕ
little_endian a b c d = a + b * 0x100 + c * 0x1_0000 + d * 0x100_0000

unfoldable pub first_word : List ℕ → Option ℕ
first_word code =
    pick (ltb (length code) 4) None (Some (little_endian (get_or code 0 0) (get_or code 1 0) (get_or code 2 0) (get_or code 3 0)))

-- the word at an address, if its four bytes are in the code
unfoldable pub word_from : List ℕ → ℕ → ℕ → Option ℕ
word_from code base a =
    pick (ltb a base) None (pick (ltb (length code) (a - base)) None (first_word (drop (a - base) code)))
