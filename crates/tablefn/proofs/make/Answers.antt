-- `make` is safe: what is written lies in its buffer.
use Rattle.base.proofs.Prelude.{arith}
use Rattle.tabling.proofs.FileLaws.{makes-within}
use Rattle.tablefn.proofs.make.Goals as goal

pub shared_ref_as_front-write_all : goal.shared_ref_as_front-write_all
shared_ref_as_front-write_all c = let h = (makes-within _ _ _ _ _ _ c.tabulate-written.ensures.makes c.tabulate-written.auto.out c.tabulate-written.auto.errors).1 in omega arith

pub shared_ref_as_front-write_all-2 : goal.shared_ref_as_front-write_all-2
shared_ref_as_front-write_all-2 c = let h = (makes-within _ _ _ _ _ _ c.tabulate-written.ensures.makes c.tabulate-written.auto.out c.tabulate-written.auto.errors).0 in omega arith
