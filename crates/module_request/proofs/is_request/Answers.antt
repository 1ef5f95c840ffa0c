-- `is_request` meets its contract: each test that it leaves by says what a request would have.
use Rattle.base.proofs.Prelude.{sym, ◌∙◌, ◌≡◌, ◌-◌, ◌+◌, ◌*◌, length, length-drop, arith}
use Rattle.module_request.specs.ModuleRequest.{head, start_count, code_of}
use Rattle.module_request.proofs.Laws.{no-request, code-decides}
use Rattle.module_request.proofs.is_request.Goals as goal

pub returns-then-all-lt22 : goal.returns-then-all-lt22
returns-then-all-lt22 c = sym (no-request _ (λ f. omega (arith, f.least, f.whole)))

pub returns-then-all-gt17430 : goal.returns-then-all-gt17430
returns-then-all-gt17430 c = sym (no-request _ (λ f. omega (arith, f.most, f.whole)))

pub returns-then-word_at-all : goal.returns-then-word_at-all
returns-then-word_at-all c = sym (no-request _ (λ f. c.if-word_at-all.true (omega (arith, f.whole, c.word_at.ensures))))

pub returns-then-input-ne1 : goal.returns-then-input-ne1
returns-then-input-ne1 c = sym (no-request _ (λ f. c.if-input-ne1.true f.version))

pub returns-then-input-gt1 : goal.returns-then-input-gt1
returns-then-input-gt1 c = sym (no-request _ (λ f. omega (arith, f.check)))

pub returns-then-starts-gt256 : goal.returns-then-starts-gt256
returns-then-starts-gt256 c = sym (no-request _ (λ f. omega (arith, f.few, c.word_at-starts.ensures)))

pub returns-in-None : goal.returns-in-None
returns-in-None c = sym (no-request _ (λ f. c.in-None.ensures (omega (arith, f.there, c.word_at-starts.ensures))))

pub returns-in-Some : goal.returns-in-Some
returns-in-Some c =
    let split = c.in-Some.ensures in
    let stated = c.word_at.ensures in
    let whole = c.if-word_at-all.false in
    let starts = c.word_at-starts.ensures in
    sym (code-decides _ c.in-Some.code (omega (arith, stated, whole)) (omega (arith, stated, whole)) (omega (arith, stated, whole)) c.if-input-ne1.false
    (omega arith) (omega (arith, starts)) (omega (arith, starts, split)) (simp length-drop (omega (arith, starts, split))))
