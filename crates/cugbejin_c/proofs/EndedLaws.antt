-- What a caller can read off the number alone, since a whole walk has ended: 0 is an accepted function, any other number leaves no entries. With the
-- tag, 0 is an accepted function that ends above its start, 17 any other accepted function, and any other number the walk's refusal.
-- Assumes nothing.
use Rattle.base.proofs.Prelude.{◌∙◌, refl, ◌≡◌, true, false, Bool, List, ℕ, ◌<◌, ◌≤◌, ◌-◌, ◌*◌, ◌/◌, ◌%◌, arith, leb, ltb, ltb-true, ltb-false}
use Rattle.answers.specs.Answers.{number_of}
use Rattle.base.specs.Choice.{pick}
use Rattle.base.specs.Refusals.{refusal_no}
use Rattle.base.specs.declared.refusal.Refusal.TheVariants.{EmptyRecord}
use Rattle.context.specs.Lists.{Lists}
use Rattle.context.specs.Turn.{no_maps, counts_of}
use Rattle.stepper.specs.Stepper.{After}
use Rattle.walk.specs.declared.Answer.{Answer}
use Rattle.walk.specs.declared.Answer.TheVariants.{Going, Accepted, Refused}
use Rattle.walk.specs.declared.Counts.{Counts}
use Rattle.walk.specs.declared.Options.{Options}
use Rattle.walk.specs.declared.Record.{Record}
use Rattle.ended.specs.Ended.{EndedBy}
use Rattle.whole.specs.Whole.{run}
use Rattle.tag.specs.declared.Tag.{Tag}
use Rattle.tag.specs.declared.Tag.TheVariants.{Percent, Refused as No-Tag}
use Rattle.tag.specs.Tag.{tag_of, tag_by}
use Rattle.ended.proofs.EndedLaws.{ended}
use Rattle.cugbejin_c.specs.Numbers.{record_of, tag_number}

abbrev none : Counts
none = counts_of no_maps

either-none : (b : Bool) → pick b none none ≡ none
either-none true = refl
either-none false = refl

-- a record's tag is there where it ends above its start, and else refused by 17
module _ (r : Record) (bytes : ℕ) where
  abbrev by : Bool → Tag
  by b = pick b (Percent (bytes * 100 / (r.end - r.start)) (bytes * 100 % (r.end - r.start))) (No-Tag EmptyRecord 0 0)

  record-above : tag_number (tag_of r bytes) ≡ 0 → r.start < r.end
  unfolding tag_of
  record-above = step (ltb r.start r.end) refl
    where
      step : (b : Bool) → ltb r.start r.end ≡ b → tag_number (by b) ≡ 0 → r.start < r.end
      step true e k = ltb-true r.start r.end e
      step false e k = absurd (omega (arith, k))

  record-empty : tag_number (tag_of r bytes) ≡ refusal_no EmptyRecord → r.end ≤ r.start
  unfolding tag_of
  record-empty = step (ltb r.start r.end) refl
    where
      step : (b : Bool) → ltb r.start r.end ≡ b → tag_number (by b) ≡ refusal_no EmptyRecord → r.end ≤ r.start
      step true e k = absurd (omega (arith, k))
      step false e k = ltb-false r.start r.end e

  record-either : (tag_number (tag_of r bytes) ≡ 0 → ⊥) → (tag_number (tag_of r bytes) ≡ refusal_no EmptyRecord → ⊥) → ⊥
  unfolding tag_of
  record-either = step (ltb r.start r.end)
    where
      step : (b : Bool) → (tag_number (by b) ≡ 0 → ⊥) → (tag_number (by b) ≡ refusal_no EmptyRecord → ⊥) → ⊥
      step true f g = f refl
      step false f g = g refl

module _ (o : Options) (start : ℕ) (code starts : List ℕ) (l : Lists) where
  abbrev all : After
  all = run o code starts start none l

  pub zero-accepted : number_of all.answer ≡ 0 → all.answer ≡ Accepted (record_of all.answer)
  zero-accepted = go all.answer (ended o start code starts none l)
    where
      go : (a : Answer) → EndedBy none l all a → number_of a ≡ 0 → a ≡ Accepted (record_of a)
      go Going h e = absurd h
      go (Accepted r) h e = refl
      go (Refused refusal address register) h e = absurd (omega (arith, e, h.least))

  pub refused-empty : (number_of all.answer ≡ 0 → ⊥) → all.walk.counts ≡ none
  refused-empty = go all.answer (ended o start code starts none l)
    where
      go : (a : Answer) → EndedBy none l all a → (number_of a ≡ 0 → ⊥) → all.walk.counts ≡ none
      go Going h some = absurd h
      go (Accepted r) h some = absurd (some refl)
      go (Refused refusal address register) h some = h.counted ∙ either-none (leb (refusal_no refusal) 4)

  module _ (bytes : ℕ) where
    abbrev number : ℕ
    number = tag_number (tag_by all.answer bytes)

    pub tag-accepted : number ≡ 0 → (all.answer ≡ Accepted (record_of all.answer)) × ((record_of all.answer).start < (record_of all.answer).end)
    tag-accepted = go all.answer (ended o start code starts none l)
      where
        go : (a : Answer) → EndedBy none l all a → tag_number (tag_by a bytes) ≡ 0
            → (a ≡ Accepted (record_of a)) × ((record_of a).start < (record_of a).end)
        go Going h e = absurd h
        go (Accepted r) h e = (refl, record-above r bytes e)
        go (Refused refusal address register) h e = absurd (omega (arith, e, h.least))

    pub tag-empty : number ≡ refusal_no EmptyRecord
        → (all.answer ≡ Accepted (record_of all.answer)) × ((record_of all.answer).end ≤ (record_of all.answer).start)
    tag-empty = go all.answer (ended o start code starts none l)
      where
        go : (a : Answer) → EndedBy none l all a → tag_number (tag_by a bytes) ≡ refusal_no EmptyRecord
            → (a ≡ Accepted (record_of a)) × ((record_of a).end ≤ (record_of a).start)
        go Going h e = absurd h
        go (Accepted r) h e = (refl, record-empty r bytes e)
        go (Refused refusal address register) h e = absurd (omega (arith, e, h.most))

    pub tag-refused : (number ≡ 0 → ⊥) → (number ≡ refusal_no EmptyRecord → ⊥) → number ≡ number_of all.answer
    tag-refused = go all.answer (ended o start code starts none l)
      where
        go : (a : Answer) → EndedBy none l all a → (tag_number (tag_by a bytes) ≡ 0 → ⊥) → (tag_number (tag_by a bytes) ≡ refusal_no EmptyRecord → ⊥)
            → tag_number (tag_by a bytes) ≡ number_of a
        go Going h some full = absurd h
        go (Accepted r) h some full = absurd (record-either r bytes some full)
        go (Refused refusal address register) h some full = refl
