-- `find_tag` meets its contract: by which of the two a parsed input is.
use Rattle.base.proofs.Prelude.{◌∙◌, sym}
use borrow.Author.Rules.{part_to_end}
use Rattle.request.proofs.RequestLaws.{asked-length}
use Rattle.tagging.proofs.Laws.{asked-tag}
use Rattle.tagging.proofs.find_tag.Goals as goal

pub slice_bounds-walk_tag-count : goal.slice_bounds-walk_tag-count
slice_bounds-walk_tag-count c = asked-length _ _ (sym c.parse.ensures ∙ c.in-Some.is)

pub slice_bounds-walk_tag-start : goal.slice_bounds-walk_tag-start
slice_bounds-walk_tag-start c = asked-length _ _ (sym c.parse.ensures ∙ c.in-Some.is)

pub returns-in-Some-clause-tag : goal.returns-in-Some-clause-tag
returns-in-Some-clause-tag c = asked-tag _ _ _ _ _ (sym c.parse.ensures ∙ c.in-Some.is) (rw part_to_end at c.walk_tag.ensures.tag)
