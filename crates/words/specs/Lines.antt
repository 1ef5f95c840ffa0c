-- The lines of the two texts.
-- Assumes nothing.
use Rattle.std.specs.Prelude.{ℕ, zero, suc, ◌+◌, ◌*◌, ◌^◌, Bool, true, false, List, [], ◌∷◌, ◌++◌, get_or}
use Prim.Native.Char.{code}
use Rattle.text.specs.Hex.{hex}
use Rattle.classes.specs.declared.Class.{Class}
use Rattle.classes.specs.Cond.{cond_no}
use Rattle.arm.specs.declared.Ins.{Ins}
use Rattle.arm.specs.Naming.{class_of}
use Rattle.arm.specs.Ins.{decode_of}
use Rattle.words.specs.declared.Text.{Text}
use Rattle.words.specs.declared.Text.TheVariants.{Decode, Class as Classes}
use Rattle.words.specs.Names.{name_of, cond_of}

-- ---- a line

-- a space, and then a piece of a line
abbrev pub field : List ℕ → List ℕ
field t = 32 ∷ t

-- the letter that tells whether the condition flags are set
abbrev pub flag_of : Bool → ℕ
flag_of true = code "s"
flag_of false = code "-"

-- the start of a line: the word and the name of its class
unfoldable pub head_of : ℕ → Class → List ℕ
head_of w class = hex 8 w ++ field (name_of class)

-- the end of a decode line; 10 is the line's end
unfoldable pub tail_of : Bool → List ℕ
tail_of flags = field (flag_of flags ∷ 10 ∷ [])

-- the class text's line of a word
unfoldable pub class_line_of : ℕ → List ℕ
class_line_of w = head_of w (class_of w) ++ (10 ∷ [])

-- the decode text's line of a decoded word: its condition, the registers that it reads, those that it writes, and its flags
unfoldable pub ins_line_of : ℕ → Ins → List ℕ
ins_line_of w i =
    head_of w i.class ++ field (cond_of (cond_no i.cond)) ++ field (hex 4 i.uses) ++ field (hex 4 i.defs)
    ++ tail_of i.updates_condition_flags

-- no part of the line depends on the address
unfoldable pub line_of : ℕ → List ℕ
line_of w = ins_line_of w (decode_of w 0)

-- the decode text's line, or the class text's
abbrev pub line_as : Text → ℕ → List ℕ
line_as Decode = line_of
line_as Classes = class_line_of

-- ---- the lines of an input

-- the number of four bytes, the most significant first
abbrev pub word_of : ℕ → ℕ → ℕ → ℕ → ℕ
word_of a b c d = a * 2 ^ 24 + b * 2 ^ 16 + c * 2 ^ 8 + d

-- the word whose bytes start at a place
unfoldable pub word_at : List ℕ → ℕ → ℕ
word_at input at = word_of (get_or input at 0) (get_or input (at + 1) 0) (get_or input (at + 2) 0) (get_or input (at + 3) 0)

-- the lines of the first n words
unfoldable pub lines_of : (ℕ → List ℕ) → List ℕ → ℕ → List ℕ
lines_of line input zero = []
lines_of line input (suc n) = lines_of line input n ++ line (word_at input (4 * n))
