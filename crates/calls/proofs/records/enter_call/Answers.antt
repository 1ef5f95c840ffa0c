-- `records::enter_call` meets its contract. By where the search found the call's place.
use Rattle.base.proofs.Prelude.{arith, rules}
use Rattle.std.proofs.lemmas.List.Sorted.{answers_always}
use Rattle.calls.specs.declared.Call.{Call}
use Rattle.calls.proofs.RecordLaws.{held-room}
use Rattle.calls.proofs.EntryLaws.{replaces, adds, full}
use Rattle.calls.proofs.records.enter_call.Goals as goal

pub returns-in-Ok : goal.returns-in-Ok
returns-in-Ok c =
    let at = c.in-Ok.ensures.position (λ (call : Call). call.address) (answers_always _ _ _ (λ f a r g k. search rules)) in
    replaces c.args.calls.now c.args.call c.requires (c.in-Ok.ensures.bound, at)

pub returns-then-count-calls : goal.returns-then-count-calls
returns-then-count-calls c =
    let at = c.in-Err.ensures.position (λ (call : Call). call.address) (answers_always _ _ _ (λ f a r g k. search rules)) in
    full c.args.calls.now c.args.call c.requires (c.in-Err.ensures.bound, at) c.if-count-calls.true

pub returns-else-count-calls : goal.returns-else-count-calls
returns-else-count-calls c =
    let calls = c.args.calls.now in
    let at = c.in-Err.ensures.position (λ (call : Call). call.address) (answers_always _ _ _ (λ f a r g k. search rules)) in
    let added = adds calls c.args.call c.requires (c.in-Err.ensures.bound, at) (omega (arith, held-room calls c.requires)) in
    rw c.copy_within.ensures.after added
