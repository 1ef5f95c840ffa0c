-- From what the parts of the work give to what is found and listed.
-- Assumes nothing.
use Rattle.base.proofs.Prelude.{refl, ◌≡◌, false, true, Bool, List, [], ◌++◌, ◌≤◌, ℕ, ◌+◌, ◌*◌, arith, leb, length, length-append, leb-false}
use Rattle.std.specs.Prelude.{Option, Some, None, Result, Ok, Err}
use Rattle.base.specs.Refusals.{refusal_no}
use Rattle.context.specs.Lists.{Lists, maps_in}
use Rattle.context.specs.Turn.{no_maps, counts_of}
use Rattle.ended.specs.Ended.{EndedBy}
use Rattle.ended.proofs.EndedLaws.{ended}
use Rattle.ended.proofs.NamedLaws.{AnswerNamed, run-named}
use Rattle.listing.specs.Lines.{field, newline}
use Rattle.listing.specs.Listing.{record_line, refusal_line, shown, list_lines, text_with, text_of, room_with, room_for}
use Rattle.listing.proofs.ListingLaws.{record-length}
use Rattle.request.specs.declared.Request.{Request}
use Rattle.request.specs.Request.{code_of, parsed}
use Rattle.stepper.specs.Stepper.{After}
use Rattle.text.specs.Decimal.{strip, decimal}
use Rattle.text.specs.Hex.{hex_digit, digits, hex}
use Rattle.base.specs.Choice.{pick}
use Rattle.text.specs.Put.{put}
use Rattle.text.proofs.Put.{put_front}
use Rattle.walk.specs.declared.Answer.{Answer}
use Rattle.walk.specs.declared.Answer.TheVariants.{Going, Accepted, Refused as Refused-by}
use Rattle.walk.specs.declared.Counts.{Counts}
use Rattle.whole.specs.Whole.{run}
use Rattle.words.specs.Answer.{no_room}
use Rattle.words.specs.Names.{bytes}
use Rattle.words.specs.declared.NoRoom.{NoRoom}
use Rattle.finder.specs.declared.Outcome.{Outcome}
use Rattle.finder.specs.Finder.{entries_in, Listing, Finds, found_by, found_in, found, text_by, room_by, Listed}

module _ (input : List ℕ) (before : Lists) where
  pub asked-finds : (after : Lists) (r : Request) (f : Outcome)
      → parsed input ≡ Some r
      → Finds f after (found_by r (code_of input) before)
      → Finds f after (found input before)
  unfolding found found_in
  asked-finds after r f is h = rw is h

  -- what stands for an input that is no request
  pub refused-text : parsed input ≡ None → text_by (found input before) ≡ bytes "refused 16 00000000\n"
  unfolding found found_in text_of text_with refusal_line field newline bytes strip decimal hex_digit digits hex
  refused-text is = rw is

-- ---- every input has a text

-- a record's line and its lists, or a refusal's line
abbrev pub Lines : Answer → Lists → Counts → List ℕ → Type 0
Lines Going l n text = ⊥
Lines (Accepted r) l n text = text ≡ record_line r ++ list_lines (maps_in n l)
Lines (Refused-by refusal address register) l n text = text ≡ refusal_line (refusal_no refusal) address

some-lines : (a : Answer) (l : Lists) (n : Counts) (text : List ℕ) → Lines a l n text → 1 ≤ length text
unfolding refusal_line newline
some-lines Going l n text h = absurd h
some-lines (Accepted r) l n text h = rw h (simp length-append (omega (arith, record-length r)))
some-lines (Refused-by number address register) l n text h = rw h (simp length-append (omega arith))

module _ (input : List ℕ) (before : Lists) where
  abbrev all : Listing
  all = found input before

  -- the walk has ended, so `Going` never comes out
  found-ends : all.answer ≡ Going → ⊥
  unfolding found found_in found_by
  found-ends = go (parsed input)
    where
      over : (x : After) (a : Answer) → EndedBy (counts_of no_maps) before x a → a ≡ Going → ⊥
      over x Going h e = h
      over x (Accepted r) h e = let z : ◌≡◌ {A = ℕ} 0 1 = cc in omega arith
      over x (Refused-by number address register) h e = let z : ◌≡◌ {A = ℕ} 0 1 = cc in omega arith

      go : (p : Option Request) → (found_in p input before).answer ≡ Going → ⊥
      go (Some r) e =
          over (run r.options (code_of input) [] r.start (counts_of no_maps) before) _
          (ended r.options r.start (code_of input) [] (counts_of no_maps) before) e
      go None e = let z : ◌≡◌ {A = ℕ} 0 1 = cc in omega arith

  -- and a refusal has a name
  pub found-named : AnswerNamed all.answer
  unfolding found found_in found_by
  found-named = go (parsed input)
    where
      go : (p : Option Request) → AnswerNamed (found_in p input before).answer
      go (Some r) = (run-named r.options (code_of input) [] r.start (counts_of no_maps) before).0
      go None = refl

  abbrev listed : Counts
  listed = shown all.lists all.counts

  pub found-lines : Lines all.answer all.lists (shown all.lists all.counts) (text_by all)
  unfolding text_of text_with
  found-lines = go all.answer found-ends
    where
      go : (a : Answer) → (a ≡ Going → ⊥) → Lines a all.lists listed (text_with a (maps_in listed all.lists))
      go Going h = absurd (h refl)
      go (Accepted r) h = refl
      go (Refused-by number address register) h = refl

  pub text-some : 1 ≤ length (text_by all)
  text-some = some-lines all.answer all.lists listed (text_by all) found-lines

-- ---- the buffer

-- an answer of n bytes lies within it
pub listed-within : {input out left : List ℕ} {before after : Lists} {r : Result ℕ NoRoom} {n : ℕ}
    → Listed input before after out r left → r ≡ Ok n → n ≤ length left
listed-within {input} {out} {left} {before} {r = r} {n = n} h is = go (leb room (length out)) h.text.answer h.text.buffer
  where
    text : List ℕ
    text = text_by (found input before)

    room : ℕ
    room = room_by (found input before)

    go : (t : Bool) → r ≡ pick t (Ok (length text)) (Err no_room) → left ≡ pick t (put out 0 text) out → n ≤ length left
    go true p q =
        let same : n ≡ length text = cc in
        rw (q, put_front) (simp length-append (omega arith))
    go false p q = let z : ◌≡◌ {A = ℕ} 0 1 = cc in absurd (omega arith)

-- a buffer with 48 bytes, and 40 for each of them, is never too short
pub room_most : (l : Lists) (n : Counts) → room_for l n ≤ 48 + 40 * entries_in l
unfolding room_for room_with shown
room_most l n = omega arith

-- so it has room for each for one
pub never-short : {input out left : List ℕ} {before after : Lists} {r : Result ℕ NoRoom}
    → Listed input before after out r left
    → 48 + 40 * entries_in after ≤ length out
    → r ≡ Err no_room → ⊥
never-short {input} {out} {before = before} {after = after} {r = r} h most = go (leb room (length out)) refl h.text.answer
  where
    room : ℕ
    room = room_by (found input before)

    fits : room ≤ length out
    fits =
        let needed = room_most (found input before).lists (found input before).counts in
        let enough = rw h.holds at most in
        omega arith

    go : (t : Bool) → leb room (length out) ≡ t → r ≡ pick t (Ok (length (text_by (found input before)))) (Err no_room) → r ≡ Err no_room → ⊥
    go true e p q = let z : ◌≡◌ {A = ℕ} 0 1 = cc in omega arith
    go false e p q = let past = leb-false room (length out) e in omega (arith, fits, past)
