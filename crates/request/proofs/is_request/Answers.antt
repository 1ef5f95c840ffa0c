-- `is_request` meets its contract: each test that it leaves by says what a request would have.
use Rattle.base.proofs.Prelude.{sym, arith}
use Rattle.request.proofs.RequestLaws.{no-request, check-decides}
use Rattle.request.proofs.is_request.Goals as goal

pub returns-then-all-lt26 : goal.returns-then-all-lt26
returns-then-all-lt26 c = sym (no-request _ (λ f. omega (arith, f.least, f.whole)))

pub returns-then-all-gt16410 : goal.returns-then-all-gt16410
returns-then-all-gt16410 c = sym (no-request _ (λ f. omega (arith, f.most, f.whole)))

pub returns-then-word_at-all : goal.returns-then-word_at-all
returns-then-word_at-all c = sym (no-request _ (λ f. c.if-word_at-all.true (omega (arith, f.whole, c.word_at.ensures))))

pub returns-then-input-ne1 : goal.returns-then-input-ne1
returns-then-input-ne1 c = sym (no-request _ (λ f. c.if-input-ne1.true f.version))

pub returns : goal.returns
returns c =
    let stated = c.word_at.ensures in
    let whole = c.if-word_at-all.false in
    sym (check-decides _ (omega (arith, stated, whole)) (omega (arith, stated, whole)) (omega (arith, stated, whole)) c.if-input-ne1.false)
