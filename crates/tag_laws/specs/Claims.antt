-- What is claimed of tags.
-- Assumes nothing.
use Rattle.std.specs.Prelude.{◌≡◌, None, List, ℕ, ◌+◌, ◌*◌, ◌-◌, ◌≤◌, ◌<◌, length}
use Rattle.context.specs.Lists.{Lists}
use Rattle.invariants.specs.Bytes.{bytes_of}
use Rattle.stability.specs.Runs.{Action, Answers, Agree, SameLengths}
use Rattle.stability.specs.Runs as runs
use Rattle.tag.specs.declared.Tag.{Tag}
use Rattle.tag.specs.declared.Tag.TheVariants.{Percent}
use Rattle.tag.specs.Tag.{tag_of, tag_by}
use Rattle.walk.specs.declared.Answer.TheVariants.{Accepted}
use Rattle.walk.specs.declared.Counts.{Counts}
use Rattle.walk.specs.declared.Options.{Options}
use Rattle.walk.specs.declared.Record.{Record}
use Rattle.whole.specs.Whole.{run}

-- the quotient and the remainder are exact
abbrev pub Exact : Type 0
Exact =
    (r : Record) (bytes quotient remainder : ℕ) → tag_of r bytes ≡ Percent quotient remainder
    → (quotient * (r.end - r.start) + remainder ≡ bytes * 100) × (remainder < r.end - r.start)

-- an accepted walk counts no more than it has come, from the requested start to the last instruction's end
abbrev pub Within : Type 0
Within =
    (o : Options) (start : ℕ) (code starts : List ℕ) (n : Counts) (l : Lists) (r : Record)
    → (run o code starts start n l).answer ≡ Accepted r
    → start + bytes_of o code starts start n l ≤ r.last_instruction_end

-- so where no end is known the quotient is at most 100
abbrev pub AtMost100 : Type 0
AtMost100 =
    (o : Options) (start : ℕ) (code starts : List ℕ) (n : Counts) (l : Lists) (r : Record) (quotient remainder : ℕ)
    → o.known_end ≡ None
    → (run o code starts start n l).answer ≡ Accepted r
    → tag_of r (bytes_of o code starts start n l) ≡ Percent quotient remainder
    → quotient ≤ 100

-- the tag of the whole walk
abbrev pub tag : Options → List ℕ → List ℕ → ℕ → Counts → Lists → Tag
tag o code starts start n l = tag_by (run o code starts start n l).answer (bytes_of o code starts start n l)

-- where a run on the first of two codes is accepted, under the hypotheses of Stable (stability/specs/Runs.antt), both give the same tag
abbrev pub SameTags : Type 0
SameTags =
    (o : Options) (start : ℕ) (starts c d : List ℕ)
    → length c ≤ length d
    → o.base + length d ≤ 0x0300_0000
    → (n : Counts) (lent : Lists) (actions : List Action) (r : Record)
    → Answers r (runs.run o c starts start n lent actions)
    → Agree c d o.base start (r.last_instruction_end + 4)
    → (n₁ n₂ : Counts) (l m : Lists) → SameLengths lent l → SameLengths lent m
    → tag o c starts start n₁ l ≡ tag o d starts start n₂ m
