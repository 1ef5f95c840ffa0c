-- `text::put_digits` meets its contract: each turn writes the digit before those that are written.
use Rattle.base.proofs.Prelude.{◌∙◌, sym, ◌≡◌, ◌+◌, ◌-◌, arith}
use native.Mathlib.Nat.{pow-zero, div-one}
use Rattle.text.specs.Hex.{digits}
use Rattle.text.proofs.Put.{put-nil}
use Rattle.text.proofs.Hex.{digits-length, shift-more, put-digits-more}
use Rattle.text.proofs.put_digits.Goals as goal

pub loop-i-init : goal.loop-i-init
unfolding digits
loop-i-init c =
    let none : c.args.n - c.args.n ≡ 0 = omega arith in
    (rw (none, pow-zero, div-one), rw none (sym (put-nil _ _)))

pub loop-i-preserved : goal.loop-i-preserved
loop-i-preserved c =
    let turn = c.loop-i in
    let args = c.args in
    let more : args.n - (turn.i - 1) ≡ args.n - turn.i + 1 = omega arith in
    let place : args.at + turn.i ≡ args.at + (turn.i - 1) + 1 = omega arith in (
      rw (more, turn.invariant.0) (shift-more _ _ _),
      rw (more, turn.invariant.1, place, c.hex_digit.ensures, turn.invariant.0) (put-digits-more _ _ _ _ _ (omega arith)),
    )

pub returns : goal.returns
returns c =
    let args = c.args in
    let start : args.at + c.loop-i.i ≡ args.at = omega arith in
    let all : args.n - c.loop-i.i ≡ args.n = omega arith in
    record { next = rw digits-length; text = c.loop-i.invariant.1 ∙ rw (start, all) }
