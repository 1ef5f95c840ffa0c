-- How long a listing is, and what it shows.
-- Assumes nothing.
use Rattle.base.proofs.Prelude.{◌∙◌, sym, subst, add-one, refl, ◌≡◌, ap, List, [], ◌∷◌, ◌++◌, append_assoc, append-nil, ℕ, ◌+◌, suc}
use Rattle.base.proofs.Prelude.{arith, length, length-append}
use Rattle.std.proofs.Math.Seq.{take-append_seam, drop-append_seam}
use Rattle.context.specs.Blocks.{other}
use Rattle.context.specs.Lists.{Lists, lists}
use Rattle.rows.specs.Map.{map_in}
use Rattle.text.specs.Hex.{hex_digit, digits, hex}
use Rattle.walk.specs.declared.Answer.TheVariants.{Accepted}
use Rattle.walk.specs.declared.Counts.{Counts}
use Rattle.walk.specs.declared.Record.{Record}
use Rattle.words.specs.Names.{bytes}
use Rattle.text.proofs.Hex.{digits-length, hex-length}
use Rattle.listing.specs.Lines.{field, two_digits, newline, mark_of, rest_of, line_of, lines_of}
use Rattle.listing.specs.Listing.{record_line, list_lines, text_with, shown, text_of, Fitting}

pub field-length : (v : ℕ) → length (field v) ≡ 9
unfolding field
field-length v = ap suc (hex-length 8 v)

pub two_digits-length : (n : ℕ) → length (two_digits n) ≡ 3
unfolding two_digits
two_digits-length n = ap suc (digits-length 10 2 n)

pub record-length : (r : Record) → length (record_line r) ≡ 48
unfolding record_line newline bytes
record-length r = simp (length-append, field-length, two_digits-length) (omega arith)

pub shown-fits : (l : Lists) (n : Counts) → Fitting l (shown l n)
unfolding shown
shown-fits l n = record {
  labels = omega arith;
  pools = omega arith;
  jump_tables = omega arith;
  inline_tables = omega arith;
  calls = omega arith;
}

-- a row off the front of the numbers to come
pub row-off : (k n : ℕ) (row rest : List ℕ) → length row ≡ k → map_in k (n + 1) (row ++ rest) ≡ row ∷ map_in k n rest
unfolding map_in
row-off k n row rest h =
    subst (λ (j : ℕ). map_in j (n + 1) (row ++ rest) ≡ row ∷ map_in j n rest) h
    (rw (add-one n, take-append_seam row rest, drop-append_seam row rest))

-- one row more
pub lines_more : (name : List ℕ) (rows : List (List ℕ)) (row : List ℕ) → lines_of name (rows ++ row ∷ []) ≡ lines_of name rows ++ line_of name row
unfolding lines_of
lines_more name [] row = append-nil (line_of name row)
lines_more name (first ∷ rows) row = ap (λ (t : List ℕ). line_of name first ++ t) (lines_more name rows row) ∙ sym (append_assoc (line_of name first) (lines_of name rows) (line_of name row))

-- ---- an example

-- C1's listing, with a count of nine pools in four places
example : text_of
    (Accepted (record {
      start = 0x0200_0000;
      end = 0x0200_000C;
      first_instruction = 0x0200_0000;
      last_instruction_end = 0x0200_0008;
      saved_registers = 0;
    }))
    (lists [] (0x0200_0008 ∷ 0x1234_5678 ∷ other ∷ 0 ∷ []) [] [] [])
    (record { labels = 0; pools = 9; jump_tables = 0; inline_tables = 0; calls = 0 })
    ≡ bytes "function 02000000 0200000c 02000000 02000008 00\npool 02000008 12345678 other\n"
unfolding text_of text_with shown record_line list_lines lines_of line_of rest_of mark_of field two_digits newline map_in bytes hex digits hex_digit
example = refl
