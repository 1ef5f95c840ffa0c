-- `make` meets its contract.
use Rattle.base.proofs.Prelude.{[], ◌∙◌, sym, refl, ap, subst, ◌++◌, List, ℕ, map, length, arith}
use Rattle.rows.specs.Order.{ascending}
use Rattle.module_request.specs.ModuleRequest.{start_of}
use Rattle.module_request.proofs.Laws.{asked-fits, asked-few}
use Rattle.text.specs.Put.{put}
use Rattle.text.specs.Writers.{Wrote}
use Rattle.text.proofs.Put.{put-nil}
use Rattle.text.proofs.Writers.{wrote_then}
use Rattle.append.specs.Append.{table_of}
use Rattle.tabling.specs.Tabling.{Output, found_from, filed}
use Rattle.tabling.proofs.FileLaws.{asked-made, refused-made}
use Rattle.tabling.proofs.make.Goals as goal

pub take_all-requires-clause-ready : goal.take_all-requires-clause-ready
take_all-requires-clause-ready c =
    let asked = c.in-Ok.ensures in
    let few = asked-few c.args.input.now asked.0 in
    let same = ap (λ (b : List (List ℕ)). length b) asked.1.starts in
    record { walk = c.requires.ready.walk; lends = c.requires.ready.lends; rows = omega (arith, c.requires.ready.rows, few, same); none = c.requires.ready.none }

pub take_all-requires-clause-ascend : goal.take_all-requires-clause-ascend
take_all-requires-clause-ascend c =
    let asked = c.in-Ok.ensures in
    ap (λ (b : List (List ℕ)). ascending (map start_of b)) asked.1.starts ∙ (asked-fits c.args.input.now asked.0).1

pub take_all-requires-clause-room : goal.take_all-requires-clause-room
take_all-requires-clause-room c =
    let few = asked-few c.args.input.now c.in-Ok.ensures.0 in
    let same = ap (λ (b : List (List ℕ)). length b) c.in-Ok.ensures.1.starts in
    omega (arith, c.requires.room, few, same)

pub write_file-requires-clause-room : goal.write_file-requires-clause-room
write_file-requires-clause-room c =
    let few = asked-few c.args.input.now c.in-Ok.ensures.0 in
    let same = ap (λ (b : List (List ℕ)). length b) c.in-Ok.ensures.1.starts in
    omega (arith, c.requires.room, c.take_all.ensures.lines.0.long, c.take_all.ensures.lines.1, few, same)

pub returns-in-Ok-clause-file : goal.returns-in-Ok-clause-file
returns-in-Ok-clause-file c =
    let out = c.args.out.now in
    let is = asked-made c.args.input.now (length out) c.in-Ok.asked c.in-Ok.ensures _ _ c.take_all.ensures.table refl in
    let held = ap table_of c.table.ensures in
    c.write_file.ensures.file ∙ ap (λ t. put out 0 (filed t (length out)).file) held ∙ ap (λ (o : Output). put out 0 o.file) (sym is)

pub returns-in-Ok-clause-len : goal.returns-in-Ok-clause-len
returns-in-Ok-clause-len c =
    let out = c.args.out.now in
    let is = asked-made c.args.input.now (length out) c.in-Ok.asked c.in-Ok.ensures _ _ c.take_all.ensures.table refl in
    let held = ap table_of c.table.ensures in
    c.write_file.ensures.len ∙ ap (λ t. length (filed t (length out)).file) held ∙ ap (λ (o : Output). length o.file) (sym is)

pub returns-in-Ok-clause-lines : goal.returns-in-Ok-clause-lines
returns-in-Ok-clause-lines c =
    let out = c.args.out.now in
    let is = asked-made c.args.input.now (length out) c.in-Ok.asked c.in-Ok.ensures _ _ c.take_all.ensures.table refl in
    let held = ap table_of c.table.ensures in
    let text : List ℕ = (found_from c.in-Ok.asked.options c.in-Ok.asked.code.now (map start_of c.in-Ok.asked.starts.now) []).lines in
    let wrote = wrote_then c.take_all.ensures.lines.0 c.write_file.ensures.lines in
    subst (λ (o : Output). Wrote c.args.errors.now c.write_file.new.errors o.lines) (sym is)
    (subst (λ t. Wrote c.args.errors.now c.write_file.new.errors (text ++ (filed t (length out)).lines)) held wrote)

pub returns-in-Err-clause-file : goal.returns-in-Err-clause-file
returns-in-Err-clause-file c =
    let is = refused-made c.args.input.now (length c.args.out.now) c.in-Err.refusal c.in-Err.ensures in
    sym (put-nil c.args.out.now 0) ∙ ap (λ (o : Output). put c.args.out.now 0 o.file) (sym is)

pub returns-in-Err-clause-len : goal.returns-in-Err-clause-len
returns-in-Err-clause-len c =
    let is = refused-made c.args.input.now (length c.args.out.now) c.in-Err.refusal c.in-Err.ensures in
    ap (λ (o : Output). length o.file) (sym is)

pub returns-in-Err-clause-lines : goal.returns-in-Err-clause-lines
returns-in-Err-clause-lines c =
    let is = refused-made c.args.input.now (length c.args.out.now) c.in-Err.refusal c.in-Err.ensures in
    subst (λ (o : Output). Wrote c.args.errors.now c.put_refusal.new.writer o.lines) (sym is) c.put_refusal.ensures
