-- `listing::put_rest` meets its contract: the row's length picks what is written.
use Rattle.base.proofs.Prelude.{arith, length, eq-eqb, ne_eqb, ltb-true, ltb-false}
use Rattle.text.proofs.Writers.{wrote_none, wrote_then}
use Rattle.words.specs.Names.{bytes}
use Rattle.listing.specs.Lines.{mark_of, mode_of, rest_of}
use Rattle.listing.proofs.put_rest.Goals as goal

pub returns-then-row-lt2 : goal.returns-then-row-lt2
unfolding rest_of
returns-then-row-lt2 c =
    let numbers = length c.args.row.now in
    rw (ne_eqb numbers 2 (λ e. omega (arith, ltb-true)), ne_eqb numbers 3 (λ e. omega (arith, ltb-true)), ne_eqb numbers 4 (λ e. omega (arith, ltb-true))) (wrote_none _, omega arith)

pub returns-in-len2 : goal.returns-in-len2
unfolding rest_of
returns-in-len2 c = rw (eq-eqb (length c.args.row.now) 2 (omega arith)) (c.put_field.ensures.0, omega arith)

pub returns-in-len3 : goal.returns-in-len3
unfolding rest_of mark_of bytes
returns-in-len3 c =
    let numbers = length c.args.row.now in
    rw (ne_eqb numbers 2 (λ e. omega arith), eq-eqb numbers 3 (omega arith))
    (wrote_then c.put_field-in-len3.ensures.0 c.put_word.ensures.0, omega arith)

pub returns-in-len4 : goal.returns-in-len4
unfolding rest_of mode_of bytes
returns-in-len4 c =
    let numbers = length c.args.row.now in
    rw (ne_eqb numbers 2 (λ e. omega arith), ne_eqb numbers 3 (λ e. omega arith), eq-eqb numbers 4 (omega arith))
    (wrote_then (wrote_then c.put_field-in-len4.ensures.0 c.put_field-in-len4-2.ensures.0) c.put_word-in-len4.ensures.0, omega arith)

pub returns-else-row-lt5 : goal.returns-else-row-lt5
unfolding rest_of
returns-else-row-lt5 c =
    let numbers = length c.args.row.now in
    rw (ne_eqb numbers 2 (λ e. omega (arith, ltb-false)), ne_eqb numbers 3 (λ e. omega (arith, ltb-false)), ne_eqb numbers 4 (λ e. omega (arith, ltb-false))) (wrote_none _, omega arith)
