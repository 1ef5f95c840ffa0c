-- The laws of the lines and of the answer.
-- Assumes nothing.
use Rattle.base.proofs.Prelude.{refl, ◌≡◌, false, true, Bool, List, [], ◌∷◌, ◌++◌, ◌≤◌, ℕ, ◌+◌, ◌<◌, suc, ◌*◌, zero, ◌/◌, ◌%◌}
use Rattle.base.proofs.Prelude.{zero-le, arith, add-one, eqb, leb, length, length-append, eq-eqb, ne_eqb, le-leb, lt-leb, leb-true}
use Rattle.base.specs.Choice.{pick}
use Rattle.text.specs.declared.writer.Writer.{Writer}
use Rattle.text.specs.Put.{put, Written}
use Rattle.text.specs.Writers.{Wrote}
use Rattle.text.proofs.Hex.{hex-length}
use Rattle.text.proofs.Put.{put-length}
use Rattle.classes.specs.Class.{class_no}
use Rattle.classes.specs.Cond.{cond_no}
use Rattle.arm.specs.Naming.{class_of}
use Rattle.arm.specs.Ins.{decode_of}
use Rattle.classes.specs.declared.Class.{Class}
use Rattle.arm.specs.declared.Ins.{Ins}
use Rattle.std.specs.Prelude.{Result, Ok, Err}
use Rattle.words.specs.declared.NoRoom.{NoRoom}
use Rattle.words.specs.declared.Text.{Text}
use Rattle.words.specs.declared.Text.TheVariants.{Decode, Class as Classes}
use Rattle.words.specs.Names.{bytes, entry, names, name_of, name_no, conditions, cond_of}
use Rattle.words.specs.Lines.{field, head_of, tail_of, class_line_of, ins_line_of, line_of, line_as, lines_of, word_at}
use Rattle.words.specs.Answer.{accepted, refusal, text_as, text_of, class_text_of, room_for, no_room, Answered}
use Rattle.words.proofs.Tables.{name-short, condition-short}

-- ---- the parts of a line

-- a line is the same at every address
line-anywhere : (w address : ℕ) → ins_line_of w (decode_of w address) ≡ line_of w
unfolding line_of ins_line_of decode_of
line-anywhere w address = refl

-- ---- how long a line is

pub head-length : (w : ℕ) (k : Class) → length (head_of w k) ≤ 16
unfolding head_of name_of
head-length w k = let short = name-short (class_no k) in simp (length-append, hex-length) (omega arith)

class-line-length : (w : ℕ) → length (class_line_of w) ≤ 32
unfolding class_line_of
class-line-length w = simp length-append (omega (arith, head-length w (class_of w)))

ins-line-length : (w : ℕ) (i : Ins) → length (ins_line_of w i) ≤ 32
unfolding ins_line_of tail_of
ins-line-length w i =
    let head = head-length w i.class in
    let condition = condition-short (cond_no i.cond) in
    simp (length-append, hex-length) (omega arith)

pub line-length : (text : Text) (w : ℕ) → length (line_as text w) ≤ 32
unfolding line_of
line-length Decode w = ins-line-length w (decode_of w 0)
line-length Classes w = class-line-length w

-- ---- the lines

-- a turn of the loop over the words
pub lines_more : (line : ℕ → List ℕ) (input : List ℕ) (i : ℕ) → lines_of line input (i + 1) ≡ lines_of line input i ++ line (word_at input (4 * i))
unfolding lines_of
lines_more line input i = rw add-one

pub lines-length : (text : Text) (input : List ℕ) (n : ℕ) → length (lines_of (line_as text) input n) ≤ 32 * n
unfolding lines_of
lines-length text input zero = zero-le
lines-length text input (suc n) =
    let fore = lines-length text input n in
    let line = line-length text (word_at input (4 * n)) in
    simp length-append (omega arith)

-- ---- which inputs are taken

pub not-whole : (input : List ℕ) → (length input % 4 ≡ 0 → ⊥) → accepted input ≡ false
unfolding accepted
not-whole input h = rw (ne_eqb (length input % 4) 0 h)

pub too_long : (input : List ℕ) → 65536 < length input → accepted input ≡ false
unfolding accepted
too_long input h = rw (lt-leb (length input) 65536 h) (either (eqb (length input % 4) 0))
  where
    either : (t : Bool) → pick t false false ≡ false
    either true = refl
    either false = refl

pub whole : (input : List ℕ) → length input % 4 ≡ 0 → length input ≤ 65536 → accepted input ≡ true
unfolding accepted
whole input h k = rw (eq-eqb (length input % 4) 0 h, le-leb (length input) 65536 k)

module _ (input : List ℕ) (refused : accepted input ≡ false) where
  pub text-refused : (text : Text) → text_as text input ≡ refusal
  unfolding text_as
  text-refused text = rw refused

  pub room-refused : room_for input ≡ 20
  unfolding room_for
  room-refused = rw refused

module _ (input : List ℕ) (taken : accepted input ≡ true) where
  pub text-accepted : (text : Text) → text_as text input ≡ lines_of (line_as text) input (length input / 4)
  unfolding text_as
  text-accepted text = rw taken

  pub room-accepted : room_for input ≡ 32 * (length input / 4)
  unfolding room_for
  room-accepted = rw taken

-- ---- the answer

pub answered-none : (text : List ℕ) (room : ℕ) (out : List ℕ) → length out < room → Answered text room out (Err no_room) out
answered-none text room out h = record { answer = rw (lt-leb room (length out) h); buffer = rw (lt-leb room (length out) h) }

pub answered-text : {text out after : List ℕ} {r : ℕ} (room : ℕ) → room ≤ length out → Written out 0 text r after → Answered text room out (Ok r) after
answered-text {text} {out} {r = r} room h w =
    let next : r ≡ length text = omega (arith, w.next) in
    record { answer = rw (le-leb room (length out) h, next); buffer = rw (le-leb room (length out) h) w.text }

-- by a writer that began at the buffer's start
pub answered-wrote : {text out after : List ℕ} {v w : Writer} (room : ℕ) → room ≤ length out
    → v.at ≡ 0 → v.out.now ≡ out → Wrote v w text → after ≡ w.out.now → Answered text room out (Ok w.at) after
answered-wrote room h start unwritten w left = answered-text room h (rw (left, ← start, ← unwritten) w.text)

pub text-fits : (text : Text) (input : List ℕ) → length (text_as text input) ≤ room_for input
unfolding text_as room_for refusal bytes
text-fits text input = fits (accepted input)
  where
    fits : (t : Bool) → length (pick t (lines_of (line_as text) input (length input / 4)) refusal) ≤ pick t (32 * (length input / 4)) 20
    fits true = lines-length text input (length input / 4)
    fits false = omega arith

-- an answer of n bytes lies within the buffer
pub within : {text before after : List ℕ} {room n : ℕ} {r : Result ℕ NoRoom} → Answered text room before r after → r ≡ Ok n → length text ≤ room → n ≤ length after
within {text} {before} {after} {room} {n} {r} a is fits = cases (leb room (length before)) refl a.answer a.buffer
  where
    cases : (t : Bool) → leb room (length before) ≡ t → r ≡ pick t (Ok (length text)) (Err no_room) → after ≡ pick t (put before 0 text) before → n ≤ length after
    cases true e p q =
        let enough : room ≤ length before = leb-true room (length before) e in
        let same : n ≡ length text = cc in
        let kept : length (put before 0 text) ≡ length before = put-length before 0 text (omega arith) in
        rw q (omega arith)
    cases false e p q = let z : ◌≡◌ {A = ℕ} 0 1 = cc in absurd (omega arith)

-- ---- examples

example-word : word_at (0xe5 ∷ 0x9f ∷ 0x01 ∷ 0x02 ∷ []) 0 ≡ 0xe59f0102
unfolding word_at
example-word = refl

example-name : name_no 17 ++ field (cond_of 14) ≡ bytes "LDR al"
unfolding bytes entry names name_no conditions cond_of
example-name = refl

-- no words, no text
example-empty : text_of [] ≡ []
unfolding text_of text_as accepted lines_of
example-empty = refl

-- a byte is no word
example-refused : class_text_of (0 ∷ []) ≡ bytes "refused 16 00000000\n"
unfolding class_text_of text_as accepted refusal
example-refused = refl
