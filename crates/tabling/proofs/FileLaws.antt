-- What the writer's answer says of a sound table.
-- Assumes nothing.
use Rattle.base.proofs.Prelude.{◌∙◌, sym, refl, ◌≡◌, ap, true, false, Bool, List, [], ℕ, length, arith}
use Rattle.std.specs.Prelude.{Result, Ok, Err}
use Rattle.base.specs.Choice.{pick}
use Rattle.base.specs.Refusals.{refusal_no}
use Rattle.base.specs.declared.refusal.Refusal.{Refusal}
use Rattle.base.specs.declared.refusal.Refusal.TheVariants.{NoRoom}
use Rattle.listing.specs.Listing.{refusal_line}
use Rattle.table.specs.declared.Table.{Table}
use Rattle.table.specs.File.{file_of, fits, answer, output_of}
use Rattle.table.specs.Held.{held_by, sound}
use Rattle.text.specs.Put.{put}
use Rattle.text.proofs.Put.{put-nil, put_front}
use Rattle.base.proofs.Prelude.{map, ◌++◌, ◌≤◌, drop, length-append}
use Rattle.std.specs.Prelude.{Option, Some, None}
use Rattle.table.specs.Table.{Function}
use Rattle.module_request.specs.declared.ModuleRequest.{ModuleRequest}
use Rattle.module_request.specs.ModuleRequest.{refused, start_of, Holds}
use Rattle.tabling.specs.Tabling.{found_from, filed, made_of, made_in, made, Output, Makes}
use Rattle.tabling.specs.declared.Written.{Written}

module _ (t : Table) (out : List ℕ) (r : Result ℕ Refusal) (after : List ℕ) (known : sound t ≡ true) (says : r ≡ answer t (length out)) (leaves : after ≡ output_of r (file_of (held_by t)) out) where
  -- the answer by whether the file has room
  Cases : Bool → Type 0
  Cases b = fits (held_by t) (length out) ≡ b

  by-room : (b : Bool) → Cases b → r ≡ pick b (Ok (length (file_of (held_by t)))) (Err NoRoom)
  unfolding answer Cases
  by-room b e = says ∙ rw (known, e)

  module _ (n : ℕ) (ok : r ≡ Ok n) where
    has-room : (Cases true) × (n ≡ length (file_of (held_by t)))
    unfolding Cases
    has-room = step (fits (held_by t) (length out)) refl
      where
        step : (b : Bool) → fits (held_by t) (length out) ≡ b → (fits (held_by t) (length out) ≡ true) × (n ≡ length (file_of (held_by t)))
        step true e = (e, let f = sym ok ∙ by-room true e in cc)
        step false e = let f = sym ok ∙ by-room false e in absurd (let z : ◌≡◌ {A = ℕ} 0 1 = cc in omega arith)

    pub filed-file : after ≡ put out 0 (filed (held_by t) (length out)).file
    unfolding filed Cases
    filed-file = leaves ∙ rw (ok, has-room.0)

    pub filed-len : n ≡ length (filed (held_by t) (length out)).file
    unfolding filed Cases
    filed-len = has-room.1 ∙ rw has-room.0

    pub filed-none : (filed (held_by t) (length out)).lines ≡ []
    unfolding filed Cases
    filed-none = rw has-room.0

  module _ (refusal : Refusal) (err : r ≡ Err refusal) where
    no-room : (Cases false) × (refusal ≡ NoRoom)
    unfolding Cases
    no-room = step (fits (held_by t) (length out)) refl
      where
        step : (b : Bool) → fits (held_by t) (length out) ≡ b → (fits (held_by t) (length out) ≡ false) × (refusal ≡ NoRoom)
        step true e = let f = sym err ∙ by-room true e in absurd (let z : ◌≡◌ {A = ℕ} 0 1 = cc in omega arith)
        step false e = (e, let f = sym err ∙ by-room false e in cc)

    pub refused-file : after ≡ put out 0 (filed (held_by t) (length out)).file
    unfolding filed Cases
    refused-file = leaves ∙ rw (err, no-room.0) (sym (put-nil out 0))

    pub refused-len : 0 ≡ length (filed (held_by t) (length out)).file
    unfolding filed Cases
    refused-len = rw no-room.0

    pub refused-lines : (filed (held_by t) (length out)).lines ≡ refusal_line (refusal_no refusal) 0
    unfolding filed Cases
    refused-lines = rw (no-room.0, no-room.1)

-- ---- an input by whether it is refused

module _ (input : List ℕ) (room : ℕ) where
  pub asked-made : (m : ModuleRequest) → (refused input ≡ None) × Holds m input → (table : List Function) (lines : List ℕ)
      → table ≡ (found_from m.options m.code.now (map start_of m.starts.now) []).table → lines ≡ (found_from m.options m.code.now (map start_of m.starts.now) []).lines
      → made input room ≡ made_of (record { table = table; lines = lines }) room
  asked-made m asked table lines p q =
      ap (λ (r : Option Refusal). made_in r input room) asked.0
      ∙ rw (p, q, asked.1.options, asked.1.code, asked.1.starts)

  pub refused-made : (refusal : Refusal) → refused input ≡ Some refusal → made input room ≡ record { file = []; lines = refusal_line (refusal_no refusal) 0 }
  refused-made refusal e = ap (λ (r : Option Refusal). made_in r input room) e

-- ---- what is written lies in its buffer

put-within : (l t : List ℕ) → length (put l 0 t) ≡ length l → length t ≤ length l
put-within l t e =
    let long : length (t ++ drop (length t) l) ≡ length l = ap length (sym (put_front l t)) ∙ e in
    omega (arith, length-append t (drop (length t) l), long)

pub makes-within : (o : Output) (out errors : List ℕ) (w : Written) (out_after errors_after : List ℕ) → Makes o out errors w out_after errors_after
    → length out_after ≡ length out → length errors_after ≡ length errors → (w.file ≤ length out) × (w.lines ≤ length errors)
makes-within o out errors w out_after errors_after m p q =
    let file = put-within out o.file (ap length (sym m.file) ∙ p) in
    let lines = put-within errors o.lines (ap length (sym m.lines) ∙ q) in
    (omega (arith, file, m.file_len), omega (arith, lines, m.lines_len))
