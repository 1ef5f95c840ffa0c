-- `tag_walk` meets its contract: its run leaves the instruction bytes in the walk's state.
use Rattle.tag.proofs.TagLaws.{tags-run}
use Rattle.tag.proofs.tag_walk.Goals as goal

pub returns-clause-tags : goal.returns-clause-tags
returns-clause-tags g c = tags-run c.args.m _ _ _ _ _ c.run-answered.ensures.called c.tag_by-tag.ensures
