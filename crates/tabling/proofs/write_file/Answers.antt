-- `write_file` meets its contract: a sound table is refused by 18 alone.
use Rattle.text.proofs.Writers.{wrote_none}
use Rattle.tabling.proofs.FileLaws.{filed-file, filed-len, filed-none, refused-file, refused-len, refused-lines}
use Rattle.tabling.proofs.write_file.Goals as goal

pub returns-in-Ok-clause-file : goal.returns-in-Ok-clause-file
returns-in-Ok-clause-file c = filed-file _ _ _ _ c.requires.sound c.write.ensures.says c.write.ensures.leaves _ c.in-Ok.is

pub returns-in-Ok-clause-len : goal.returns-in-Ok-clause-len
returns-in-Ok-clause-len c = filed-len _ _ _ _ c.requires.sound c.write.ensures.says c.write.ensures.leaves _ c.in-Ok.is

pub returns-in-Ok-clause-lines : goal.returns-in-Ok-clause-lines
returns-in-Ok-clause-lines c = rw (filed-none _ _ _ _ c.requires.sound c.write.ensures.says c.write.ensures.leaves _ c.in-Ok.is) (wrote_none _)

pub returns-in-Err-clause-file : goal.returns-in-Err-clause-file
returns-in-Err-clause-file c = refused-file _ _ _ _ c.requires.sound c.write.ensures.says c.write.ensures.leaves _ c.in-Err.is

pub returns-in-Err-clause-len : goal.returns-in-Err-clause-len
returns-in-Err-clause-len c = refused-len _ _ _ _ c.requires.sound c.write.ensures.says c.write.ensures.leaves _ c.in-Err.is

pub returns-in-Err-clause-lines : goal.returns-in-Err-clause-lines
returns-in-Err-clause-lines c =
    rw (refused-lines _ _ _ _ c.requires.sound c.write.ensures.says c.write.ensures.leaves _ c.in-Err.is) c.put_refusal.ensures
