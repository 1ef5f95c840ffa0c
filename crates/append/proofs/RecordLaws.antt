-- The numbers of one record more.
-- Assumes nothing.
use Rattle.base.proofs.Prelude.{◌∙◌, sym, refl, ◌≡◌, ap, List, [], ◌∷◌, ◌++◌, ◌<◌, ◌≤◌, ℕ, ◌+◌, ◌*◌, suc, zero, le_of_suc-le-suc, not-suc-le-zero, arith, length, get_or, take, length-take-le, add-one}
use Rattle.calls.specs.declared.Call.{Call}
use Rattle.calls.specs.Records.{row_of, numbers_of}
use Rattle.calls.proofs.RecordLaws.{numbers-length, first-rows}
use Rattle.context.specs.Context.{call_row}
use Rattle.rows.specs.Map.{flat}
use Rattle.rows.proofs.MapLaws.{flat_map}
use Rattle.text.specs.Put.{put}
use Rattle.text.proofs.Put.{put-put}

numbers-more : (calls : List Call) (i : ℕ) (d : Call) → i < length calls → numbers_of (take (suc i) calls) ≡ numbers_of (take i calls) ++ row_of (get_or calls i d)
unfolding flat
numbers-more [] i d h = absurd (not-suc-le-zero h)
numbers-more (c ∷ cs) zero d h = refl
numbers-more (c ∷ cs) (suc i) d h = ap (λ (r : List ℕ). c.address ∷ c.word ∷ c.destination ∷ c.mode ∷ r) (numbers-more cs i d (le_of_suc-le-suc h))

pub records-more : (calls : List Call) (i : ℕ) (d : Call) (out : List ℕ) (at : ℕ) → i < length calls → at ≤ length out
    → put (put out at (numbers_of (take i calls))) (at + i * call_row) (row_of (get_or calls i d)) ≡ put out at (numbers_of (take (i + 1) calls))
records-more calls i d out at h room =
    let long : length (numbers_of (take i calls)) ≡ i * call_row = numbers-length (take i calls) ∙ ap (λ (n : ℕ). n * call_row) (length-take-le i calls (omega arith)) in
    rw (add-one, ← long, put-put out at (numbers_of (take i calls)) (row_of (get_or calls i d)) room) (ap (put out at) (sym (numbers-more calls i d h)))

pub records-room : (n : ℕ) (calls : List Call) → n * call_row ≤ length (numbers_of calls) → n ≤ length calls
records-room n calls h = omega (arith, numbers-length calls)

pub records-first : (n : ℕ) (calls : List Call) → n ≤ length calls → numbers_of (take n calls) ≡ take (n * call_row) (numbers_of calls)
records-first n calls h = ap flat (sym (first-rows n calls h)) ∙ flat_map call_row n (numbers_of calls)
