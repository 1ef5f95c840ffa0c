-- The names of the classes and the letters of the conditions, as they are printed.
-- Assumes nothing.
use Rattle.std.specs.Prelude.{ℕ, zero, suc, List, [], ◌∷◌}
use Prim.Native.Char.{code}
use Prim.Native.String.{String}
use Rattle.classes.specs.declared.Class.{Class}
use Rattle.classes.specs.Class.{class_no}

-- the bytes of a text
unfoldable pub bytes : String → List ℕ
bytes String.[] = []
bytes (String.◌∷◌ c s) = code c ∷ bytes s

-- the text at place k of a list, and nothing past its end
unfoldable pub entry : List String → ℕ → List ℕ
unfolding bytes
entry [] k = []
entry (s ∷ ss) zero = bytes s
entry (s ∷ ss) (suc k) = entry ss k

-- in the order of the classes' numbers
unfoldable pub names : List String
names =
    "ADC" ∷ "ADD" ∷ "AND" ∷ "B" ∷ "BIC" ∷ "BKPT" ∷ "BL" ∷ "BLX1" ∷ "BLX2" ∷ "BX" ∷ "CDP" ∷ "CLZ" ∷ "CMN" ∷ "CMP" ∷
    "EOR" ∷ "LDC" ∷ "LDM" ∷ "LDR" ∷ "LDRB" ∷ "LDRBT" ∷ "LDRD" ∷ "LDRH" ∷ "LDRSB" ∷ "LDRSH" ∷ "LDRT" ∷ "MCR" ∷
    "MCRR" ∷ "MLA" ∷ "MOV" ∷ "MRC" ∷ "MRRC" ∷ "MRS" ∷ "MSR" ∷ "MUL" ∷ "MVN" ∷ "ORR" ∷ "PLD" ∷ "QADD" ∷ "QDADD" ∷
    "QDSUB" ∷ "QSUB" ∷ "RSB" ∷ "RSC" ∷ "SBC" ∷ "SMLAL" ∷ "SMLALXY" ∷ "SMLAWY" ∷ "SMLAXY" ∷ "SMULL" ∷ "SMULWY" ∷
    "SMULXY" ∷ "STC" ∷ "STM" ∷ "STR" ∷ "STRB" ∷ "STRBT" ∷ "STRD" ∷ "STRH" ∷ "STRT" ∷ "SUB" ∷ "SWI" ∷ "SWP" ∷ "SWPB" ∷
    "TEQ" ∷ "TST" ∷ "UMLAL" ∷ "UMULL" ∷ "PUSH" ∷ "POP" ∷ "LSL" ∷ "LSR" ∷ "ASR" ∷ "ROR" ∷ "ILLEGAL" ∷ []

-- the name of the class with number k, and of a class
unfoldable pub name_no : ℕ → List ℕ
name_no k = entry names k

unfoldable pub name_of : Class → List ℕ
name_of class = name_no (class_no class)

-- the condition field, from 0 to 15
unfoldable pub conditions : List String
conditions =
    "eq" ∷ "ne" ∷ "cs" ∷ "cc" ∷ "mi" ∷ "pl" ∷ "vs" ∷ "vc" ∷ "hi" ∷ "ls" ∷ "ge" ∷ "lt" ∷ "gt" ∷ "le" ∷ "al" ∷ "nv" ∷ []

unfoldable pub cond_of : ℕ → List ℕ
cond_of c = entry conditions c
