-- `listing::put_lines` meets its contract: each turn writes a line more.
use Rattle.base.proofs.Prelude.{◌≡◌, ◌≤◌, ◌<◌, ◌+◌, ◌*◌, ◌∙◌, sym, refl, zero, suc, length, ◌++◌, ℕ}
use Rattle.base.proofs.Prelude.{arith, rules, suc-mul, append_assoc, append-nil, length-append}
use Rattle.std.proofs.lemmas.List.{map-append}
use Rattle.rows.specs.Map.{map_in}
use Rattle.text.proofs.Writers.{wrote_none, wrote_then}
use Rattle.listing.specs.Lines.{lines_of}
use Rattle.listing.proofs.ListingLaws.{lines_more, row-off}
use Rattle.listing.proofs.put_lines.Goals as goal

pub loop-row-init : goal.loop-row-init
unfolding lines_of
loop-row-init c = (search rules, tt, search rules, search rules, search rules, search rules, wrote_none _)

pub put_line-requires : goal.put_line-requires
put_line-requires c =
    let turn = c.loop-row.invariant in
    let step = c.in-Some.ensures.steps in
    (omega (arith, turn, step, c.requires), c.requires.1, omega (arith, turn, step))

pub loop-row-preserved : goal.loop-row-preserved
loop-row-preserved c =
    let turn = c.loop-row.invariant in
    let step = c.in-Some.ensures.steps in
    let stride = c.args.stride in
    let n = c.next.new.self.n in
    let row = c.in-Some.row.now in
    let rest = c.next.new.self.iter.rest.now in
    let room : (n + 1) * stride ≤ length (row ++ rest) = rw (step.1, ← step.0.1.0) turn.3 in (
      omega (arith, turn, step),
      tt,
      omega (arith, turn, step),
      omega (arith, turn, step, length-append row rest),
      rw (map-append, append_assoc, ← row-off stride n row rest (step.0.1.1 ∙ turn.2), ← step.0.1.0, step.1) turn.4,
      omega (arith, turn, step, c.put_line.ensures.1),
      rw (map-append, lines_more) (wrote_then turn.6 c.put_line.ensures.0),
    )

-- where the next row would not fit, none is left
none-left : (n stride places : ℕ) → n * stride ≤ places → (0 < n → places < stride) → n ≡ 0
none-left zero stride places room ends = refl
none-left (suc n) stride places room ends = absurd (omega (arith, suc-mul n stride, ends (omega arith)))

pub returns : goal.returns
unfolding map_in
returns c =
    let turn = c.loop-row.invariant in
    let done = none-left _ _ _ turn.3 (λ more. omega (arith, turn.2, c.in-None.ensures.steps more)) in
    let all = sym (append-nil _) ∙ (rw done at turn.4) in
    (rw all at turn.6, omega (arith, turn))
