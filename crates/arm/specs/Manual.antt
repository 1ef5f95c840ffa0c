-- What the manual and the naming rules say of a word, as propositions. The theorems about them stand in proofs/ManualLaws.antt and StackLaws.antt.
-- Assumes nothing.
use mathlib.Core.List.{Memᴰ}
use Rattle.std.specs.Prelude.{◌≡◌, ◌⊎◌, ℕ, ◌<◌, ◌/◌, ◌%◌, ◌^◌}
use Rattle.classes.specs.declared.Class.{Class}
use Rattle.classes.specs.declared.Class.TheVariants.{Illegal}
use Rattle.classes.specs.Class.{class_no}
use Rattle.encodings.specs.Diagram.{fitting, view}
use Rattle.encodings.specs.Encodings.{encodings, undefineds}
use Rattle.arm.specs.Naming.{name_of}

-- a diagram of class k fits the word
abbrev pub Fits : ℕ → Class → Type 0
Fits w k = Memᴰ k (fitting encodings (view w))

-- a page's text calls the word UNDEFINED
abbrev pub Undefined : ℕ → Type 0
Undefined w = Memᴰ Illegal (fitting undefineds (view w))

-- one of the manual's own instructions: 67 of them come first in the order of the classes
abbrev pub OfManual : Class → Type 0
OfManual k = class_no k < 67

-- one of the names that document 01 adds, Illegal apart
abbrev pub Added : Class → Type 0
Added k = (66 < class_no k) × (class_no k < 73)

-- k is the manual's name of the word, and no naming rule moves it
pub record Named (w : ℕ) (k : Class) : Type 0 where
  pub fits : Fits w k
  pub defined : Undefined w → ⊥
  pub kept : name_of k w ≡ k

-- Class k is left for the word: a diagram fits, the text does not call the word UNDEFINED and the naming rules take the diagram's
-- class to k; or nothing fits or the text calls it UNDEFINED, and k is Illegal.
pub data Left (w : ℕ) (k : Class) : Type 0 where
  by-diagram : (j : Class) → Fits w j → (Undefined w → ⊥) → name_of j w ≡ k → Left w k
  by-text : Undefined w → k ≡ Illegal → Left w k
  by-absence : ((j : Class) → Fits w j → ⊥) → k ≡ Illegal → Left w k

-- the words that are pushes and pops, by their fields: the condition, bits 27 to 16 and, of a single transfer, bits 11 to 0. STMDB SP!
-- and STR Rd, [SP, #-4]!; LDMIA SP! and LDR Rd, [SP], #4
pub record StackWord (block single w : ℕ) : Type 0 where
  pub condition : w / 2 ^ 28 ≡ 15 → ⊥
  pub transfer : (w / 2 ^ 16 % 2 ^ 12 ≡ block) ⊎ ((w / 2 ^ 16 % 2 ^ 12 ≡ single) × (w % 2 ^ 12 ≡ 4))

abbrev pub IsPush : ℕ → Type 0
IsPush = StackWord 0b1001_0010_1101 0b0101_0010_1101

abbrev pub IsPop : ℕ → Type 0
IsPop = StackWord 0b1000_1011_1101 0b0100_1001_1101
