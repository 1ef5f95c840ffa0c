-- `find` meets its contract: by which of the two a parsed input is.
use Rattle.base.proofs.Prelude.{◌∙◌, sym}
use borrow.Author.Rules.{part_to_end}
use Rattle.request.proofs.RequestLaws.{asked-length}
use Rattle.finder.proofs.FinderLaws.{asked-finds}
use Rattle.finder.proofs.find.Goals as goal

pub slice_bounds-walk_whole-count : goal.slice_bounds-walk_whole-count
slice_bounds-walk_whole-count c = asked-length _ _ (sym c.parse.ensures ∙ c.in-Some.is)

pub slice_bounds-walk_whole-start : goal.slice_bounds-walk_whole-start
slice_bounds-walk_whole-start c = asked-length _ _ (sym c.parse.ensures ∙ c.in-Some.is)

pub returns-in-Some-clause-found : goal.returns-in-Some-clause-found
returns-in-Some-clause-found c = asked-finds _ _ _ _ _ (sym c.parse.ensures ∙ c.in-Some.is) (rw part_to_end at c.walk_whole.ensures.found)
