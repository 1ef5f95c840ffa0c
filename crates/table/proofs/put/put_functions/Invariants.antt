-- The invariant: the functions before the place are written, and the rows to come with what is left of the lists are the others.
use Rattle.base.proofs.Prelude.{◌≡◌, take, drop, true}
use Rattle.std.specs.List.{flat_map}
use Rattle.text.specs.Writers.{Wrote}
use Rattle.table.specs.Held.{lists_of, functions_in, fits_lists}
use Rattle.table.specs.File.{function}
use Rattle.table.proofs.put.put_functions.Given as goal

abbrev pub invariant-loop-row : goal.invariant-loop-row
invariant-loop-row l =
    let all = functions_in l.rows (lists_of l.entries) in
    record {
      fits : fits_lists (drop l.row-index l.rows) (lists_of l.left) ≡ true;
      others : functions_in (drop l.row-index l.rows) (lists_of l.left) ≡ drop l.row-index all;
      wrote : Wrote l.initial.writer l.writer (flat_map function (take l.row-index all));
    }
