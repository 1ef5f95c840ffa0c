-- What the writer answers and leaves.
-- Assumes nothing.
use Rattle.base.proofs.Prelude.{◌∙◌, sym, refl, ap, ◌≡◌, true, false, Bool, List, [], ◌∷◌, ◌++◌, ◌≤◌, ◌<◌, ℕ, ◌+◌, ◌*◌, ◌^◌, arith, length, ltb, leb, ltb-true, leb-true, length-append}
use native.Mathlib.Nat.{zero-add}
use Rattle.std.specs.Prelude.{Some, None, Ok, Err}
use Rattle.base.specs.Choice.{pick, both}
use Rattle.base.specs.declared.refusal.Refusal.TheVariants.{BadLists, NoRoom}
use Rattle.base.proofs.ChoiceLaws.{both_first, both-second}
use Rattle.rows.specs.Map.{map_in}
use Rattle.text.specs.declared.writer.Writer.{Writer}
use Rattle.text.specs.Writers.{Wrote}
use Rattle.table.specs.Table.{Function}
use Rattle.table.specs.Held.{function_row, lists_of, functions_in, fits_lists, is_sound, held_by, sound}
use Rattle.table.specs.Split.{SoundRows}
use Rattle.table.specs.File.{number, version, body, file_of, fits, answer, Filed}
use Rattle.table.specs.Own.{functions, rows_len, body_within}
use Rattle.table.specs.declared.Table.{Table}
use Rattle.table.proofs.FileLaws.{functions-length, functions-long, body_long}

pub file-length : (table : List Function) → length (file_of table) ≡ 4 + length (body table)
unfolding file_of
file-length table = length-append (number (length (body table))) (body table)

-- ---- the test of the length

within-none : (b : Bool) (n : ℕ) → None ≡ pick b (Some n) None → b ≡ false
within-none true n e = absurd (cc)
within-none false n e = refl

pub record Within (n len places : ℕ) : Type 0 where
  pub is : n ≡ len
  pub few : len < 2 ^ 32
  pub room : 4 + len ≤ places
  pub test : both (ltb len (2 ^ 32)) (leb (4 + len) places) ≡ true

within-some : (b : Bool) (m n : ℕ) → Some m ≡ pick b (Some n) None → (b ≡ true) × (m ≡ n)
within-some true m n e = (refl, cc)
within-some false m n e = absurd (cc)

pub body-within : (n len places : ℕ) → Some n ≡ body_within len places → Within n len places
unfolding body_within
body-within n len places e =
    let parts = within-some (both (ltb len (2 ^ 32)) (leb (4 + len) places)) n len e in
    record {
      is = parts.1;
      few = ltb-true _ _ (both_first _ _ parts.0);
      room = leb-true _ _ (both-second (ltb len (2 ^ 32)) _ parts.0);
      test = parts.0;
    }

-- ---- a sound table

module _ {t : Table} {rows : List (List ℕ)} (s : SoundRows t rows) where
  held-rows : held_by t ≡ functions_in rows (lists_of t.entries)
  held-rows = rw s.are

  pub rows-fit : fits_lists rows (lists_of t.entries) ≡ true
  unfolding is_sound
  rows-fit =
      rw s.are
      (both_first (fits_lists (map_in function_row t.count t.functions.now) (lists_of t.entries)) _
      (both-second (leb (t.count * function_row) (length t.functions.now)) _ s.sound))

  body-is : length (body (held_by t)) ≡ rows_len rows
  body-is = ap (λ (fs : List Function). length (body fs)) held-rows ∙ body_long rows _ rows-fit

  file-is : length (file_of (held_by t)) ≡ 4 + rows_len rows
  file-is = file-length (held_by t) ∙ ap (λ (n : ℕ). 4 + n) body-is

  fits-is : (places : ℕ) → fits (held_by t) places ≡ both (ltb (rows_len rows) (2 ^ 32)) (leb (4 + rows_len rows) places)
  unfolding fits
  fits-is places = rw (body-is, file-is)

  answer_no-room : (places : ℕ) → None ≡ body_within (rows_len rows) places → answer t places ≡ Err NoRoom
  unfolding answer body_within
  answer_no-room places e = rw (s.sound, fits-is places, within-none _ (rows_len rows) e)

  pub filed_no-room : (out : List ℕ) → None ≡ body_within (rows_len rows) (length out) → Filed t out (Err NoRoom) out
  filed_no-room out e = record { says = sym (answer_no-room _ e); leaves = refl }

  answer_room : (n places : ℕ) → Within n (rows_len rows) places → answer t places ≡ Ok (length (file_of (held_by t)))
  unfolding answer
  answer_room n places w = rw (s.sound, fits-is places, w.test)

  pub functions-room : length (functions (functions_in rows (lists_of t.entries))) + 5 ≡ rows_len rows
  unfolding functions rows_len
  functions-room = let all = functions-long rows (lists_of t.entries) rows-fit in omega (arith, all)

  -- the pieces that are put are the file
  file-text : (n : ℕ) → n ≡ rows_len rows
      → ((number n ++ version ∷ []) ++ number (length rows)) ++ functions (functions_in rows (lists_of t.entries)) ≡ file_of (held_by t)
  unfolding functions file_of body
  file-text n e =
      rw (e, ← body-is, held-rows, functions-length rows (lists_of t.entries))

  pub filed : {out after : List ℕ} {v w : Writer} (n : ℕ) → Within n (rows_len rows) (length out)
      → v.at ≡ 0 → v.out.now ≡ out
      → Wrote v w (((number n ++ version ∷ []) ++ number (length rows)) ++ functions (functions_in rows (lists_of t.entries)))
      → after ≡ w.out.now → Filed t out (Ok w.at) after
  filed n room start unwritten wrote now =
      let text = rw (file-text n room.is, start, unwritten) at wrote.text in
      record { says = ap Ok (text.next ∙ zero-add _) ∙ sym (answer_room n _ room); leaves = now ∙ text.text }

pub filed_bad : {t : Table} (out : List ℕ) → sound t ≡ false → Filed t out (Err BadLists) out
unfolding answer
filed_bad out e = record { says = rw e; leaves = refl }
