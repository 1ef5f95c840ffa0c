-- Tables in lent lists, and their files.
-- Assumes nothing.
use Rattle.base.proofs.Prelude.{refl, ◌≡◌, true, false, List, [], ◌∷◌, ℕ, ◌≤◌, ◌^◌, arith, length, le-ltb}
use Rattle.std.specs.Prelude.{Err}
use Rattle.base.specs.declared.refusal.Refusal.TheVariants.{NoRoom}
use Rattle.rows.specs.Map.{map_in}
use Rattle.rows.specs.Order.{ascending, rising}
use Rattle.table.specs.Table.{is_ascending}
use Rattle.table.specs.Held.{Lists, flag, flagged, function_in, past, functions_in, table_in, fits_lists, is_sound, held_by, sound}
use Rattle.table.specs.File.{numbers, entry, entries, heading, function, body, file_of, fits, answer}
use Rattle.table.specs.Own.{rows_len}
use Rattle.table.specs.declared.Table.{Table}
use Rattle.table.proofs.FileLaws.{body_long}

-- no function
example-none : file_of [] ≡ 0 ∷ 0 ∷ 0 ∷ 5 ∷ 1 ∷ 0 ∷ 0 ∷ 0 ∷ 0 ∷ []
unfolding file_of body
example-none = refl

-- three functions with every kind of entry, a mark that is 7, and numbers behind
functions : List ℕ
functions =
    0x0200_0000 ∷ 0x0200_000C ∷ 0x0200_0000 ∷ 0x0200_0008 ∷ 3 ∷ 1 ∷ 1 ∷ 0 ∷ 0 ∷ 0 ∷
    0x0200_000C ∷ 0x0200_0040 ∷ 0x0200_0010 ∷ 0x0200_0038 ∷ 9 ∷ 2 ∷ 2 ∷ 1 ∷ 1 ∷ 2 ∷
    0x0200_0040 ∷ 0x0200_0044 ∷ 0x0200_0040 ∷ 0x0200_0044 ∷ 0 ∷ 0 ∷ 0 ∷ 0 ∷ 0 ∷ 0 ∷ 7 ∷ []

lists : Lists
lists = record {
  labels = 0x0200_0004 ∷ 0x0200_0014 ∷ 0x0200_0018 ∷ 9 ∷ [];
  pools = 0x0200_0008 ∷ 0x1234_5678 ∷ 7 ∷ 0x0200_000C ∷ 1 ∷ 1 ∷ 0x0200_003C ∷ 2 ∷ 0 ∷ 5 ∷ [];
  jump_tables = 0x0200_0020 ∷ 12 ∷ [];
  inline_tables = 0x0200_0030 ∷ 0x100 ∷ [];
  calls = 0x0200_0028 ∷ 0xEB00_0035 ∷ 0x0200_0100 ∷ 0 ∷ 0x0200_002C ∷ 0xFA00_0000 ∷ 0x0200_0200 ∷ 1 ∷ [];
}

example-three : file_of (table_in 3 functions lists) ≡
    0 ∷ 0 ∷ 0 ∷ 194 ∷ 1 ∷ 0 ∷ 0 ∷ 0 ∷ 3 ∷ 2 ∷ 0 ∷ 0 ∷ 0 ∷ 2 ∷ 0 ∷ 0 ∷ 12 ∷ 2 ∷ 0 ∷ 0 ∷
    0 ∷ 2 ∷ 0 ∷ 0 ∷ 8 ∷ 0 ∷ 0 ∷ 0 ∷ 1 ∷ 0 ∷ 0 ∷ 0 ∷ 1 ∷ 0 ∷ 0 ∷ 0 ∷ 0 ∷ 0 ∷ 0 ∷ 0 ∷
    0 ∷ 0 ∷ 0 ∷ 0 ∷ 0 ∷ 2 ∷ 0 ∷ 0 ∷ 4 ∷ 2 ∷ 0 ∷ 0 ∷ 8 ∷ 18 ∷ 52 ∷ 86 ∷ 120 ∷ 0 ∷ 2 ∷ 0 ∷
    0 ∷ 12 ∷ 2 ∷ 0 ∷ 0 ∷ 64 ∷ 2 ∷ 0 ∷ 0 ∷ 16 ∷ 2 ∷ 0 ∷ 0 ∷ 56 ∷ 0 ∷ 0 ∷ 0 ∷ 2 ∷ 0 ∷ 0 ∷
    0 ∷ 2 ∷ 0 ∷ 0 ∷ 0 ∷ 1 ∷ 0 ∷ 0 ∷ 0 ∷ 1 ∷ 0 ∷ 0 ∷ 0 ∷ 2 ∷ 2 ∷ 0 ∷ 0 ∷ 20 ∷ 2 ∷ 0 ∷
    0 ∷ 24 ∷ 2 ∷ 0 ∷ 0 ∷ 12 ∷ 0 ∷ 0 ∷ 0 ∷ 1 ∷ 1 ∷ 2 ∷ 0 ∷ 0 ∷ 60 ∷ 0 ∷ 0 ∷ 0 ∷ 2 ∷ 0 ∷
    2 ∷ 0 ∷ 0 ∷ 32 ∷ 0 ∷ 0 ∷ 0 ∷ 12 ∷ 2 ∷ 0 ∷ 0 ∷ 48 ∷ 0 ∷ 0 ∷ 1 ∷ 0 ∷ 2 ∷ 0 ∷ 0 ∷ 40 ∷
    235 ∷ 0 ∷ 0 ∷ 53 ∷ 2 ∷ 0 ∷ 1 ∷ 0 ∷ 0 ∷ 2 ∷ 0 ∷ 0 ∷ 44 ∷ 250 ∷ 0 ∷ 0 ∷ 0 ∷ 2 ∷ 0 ∷ 2 ∷
    0 ∷ 1 ∷ 2 ∷ 0 ∷ 0 ∷ 64 ∷ 2 ∷ 0 ∷ 0 ∷ 68 ∷ 2 ∷ 0 ∷ 0 ∷ 64 ∷ 2 ∷ 0 ∷ 0 ∷ 68 ∷ 0 ∷ 0 ∷
    0 ∷ 0 ∷ 0 ∷ 0 ∷ 0 ∷ 0 ∷ 0 ∷ 0 ∷ 0 ∷ 0 ∷ 0 ∷ 0 ∷ 0 ∷ 0 ∷ 0 ∷ 0 ∷ 0 ∷ 0 ∷ []
unfolding functions lists file_of body function heading entries entry numbers functions_in function_in past flagged flag map_in
example-three = refl

example-sound : is_sound 3 functions lists ≡ true
unfolding functions lists is_sound fits_lists is_ascending functions_in function_in past flagged flag map_in ascending rising
example-sound = refl

-- a fourth function has no row
example-count : is_sound 4 functions lists ≡ false
unfolding functions lists is_sound
example-count = refl

-- one label too few
example-label : is_sound 3 functions (record lists { labels = 0x0200_0004 ∷ 0x0200_0014 ∷ [] }) ≡ false
unfolding functions lists is_sound fits_lists map_in
example-label = refl

-- two labels at one address
example-twice : is_sound 3 functions (record lists { labels = 0x0200_0004 ∷ 0x0200_0014 ∷ 0x0200_0014 ∷ [] }) ≡ false
unfolding functions lists is_sound fits_lists is_ascending functions_in function_in past flagged flag map_in ascending rising
example-twice = refl

-- the file's last byte has its place, or not
example-room : fits (table_in 3 functions lists) 198 ≡ true
unfolding functions lists fits file_of body function heading entries entry numbers functions_in function_in past flagged flag map_in
example-room = refl

example-short : fits (table_in 3 functions lists) 197 ≡ false
unfolding functions lists fits file_of body function heading entries entry numbers functions_in function_in past flagged flag map_in
example-short = refl

-- a length that does not fit four bytes by its counts: one function of 2 ^ 30 labels, in lists that have them
row : List ℕ
row = 0 ∷ 0 ∷ 0 ∷ 0 ∷ 0 ∷ 0x4000_0000 ∷ 0 ∷ 0 ∷ 0 ∷ 0 ∷ []

example-long : (l : Lists) (places : ℕ) → fits_lists (row ∷ []) l ≡ true → fits (functions_in (row ∷ []) l) places ≡ false
unfolding row fits rows_len
example-long l places e =
    let long : 2 ^ 32 ≤ length (body (functions_in (row ∷ []) l)) = omega (arith, body_long (row ∷ []) l e) in
    rw (le-ltb _ _ long)

-- and such a table is refused as number 18, however many places there are
pub too_long : (t : Table) (places : ℕ) → sound t ≡ true → 2 ^ 32 ≤ length (body (held_by t)) → answer t places ≡ Err NoRoom
unfolding answer fits
too_long t places good long = rw (good, le-ltb _ _ long)
