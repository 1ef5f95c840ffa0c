-- `put_functions` meets its contract: each turn puts a function.
use Rattle.base.proofs.Prelude.{◌<◌, ◌∙◌, sym, false≢true, length, get_or, [], add-one, drop-cons, rules}
use Rattle.text.proofs.Writers.{wrote_none}
use Rattle.table.specs.Held.{lists_of, function_in, functions_in}
use Rattle.table.specs.File.{function}
use Rattle.table.specs.Own.{functions}
use Rattle.table.proofs.Pieces.{wrote_more, room_more, wrote_all}
use Rattle.table.proofs.HeldLaws.{split-past}
use Rattle.table.proofs.FileLaws.{next-function, fits-next, functions-length, split-own, split-function}
use Rattle.table.proofs.put.put_functions.Goals as goal

pub loop-row-init : goal.loop-row-init
loop-row-init c = record { fits = c.requires.0; others = search rules; wrote = wrote_none _ }

pub returns-in_default : goal.returns-in_default
returns-in_default c =
    let now = c.loop-row in
    let fits = rw (drop-cons c.args.rows.now now.row-index [] c.loop-row-test.true) at now.invariant.fits in
    absurd (false≢true (sym c.in_default.ensures ∙ (fits-next _ _ _ fits).0))

pub put_function-requires : goal.put_function-requires
unfolding functions
put_function-requires c =
    let now = c.loop-row in
    let all = functions_in c.args.rows.now (lists_of c.args.entries) in
    let within : now.row-index < length all = rw functions-length c.loop-row-test.true in
    let next = next-function _ _ now.row-index all (lists_of now.left) within (rw (drop-cons c.args.rows.now now.row-index [] c.loop-row-test.true) at now.invariant.others) in
    (split-own c.in-Some.ensures, rw (split-function c.in-Some.ensures, ← next.next) (room_more function all _ now.invariant.wrote _ within c.requires.1))

pub loop-row-preserved : goal.loop-row-preserved
loop-row-preserved c =
    let now = c.loop-row in
    let all = functions_in c.args.rows.now (lists_of c.args.entries) in
    let within : now.row-index < length all = rw functions-length c.loop-row-test.true in
    let next = next-function _ _ now.row-index all (lists_of now.left) within (rw (drop-cons c.args.rows.now now.row-index [] c.loop-row-test.true) at now.invariant.others) in
    let fits = rw (drop-cons c.args.rows.now now.row-index [] c.loop-row-test.true) at now.invariant.fits in
    record {
      fits = rw (split-past c.in-Some.ensures, add-one) (fits-next _ _ _ fits).1;
      others = rw (split-past c.in-Some.ensures, add-one) (rw add-one at next.others);
      wrote = wrote_more function all _ now.invariant.wrote (function_in (get_or c.args.rows.now now.row-index []) (lists_of now.left)) within (rw (next.next, ← split-function c.in-Some.ensures) c.put_function.ensures);
    }

pub returns : goal.returns
unfolding functions
returns c =
    wrote_all function _ _ c.loop-row.invariant.wrote (rw functions-length c.loop-row-test.false)
