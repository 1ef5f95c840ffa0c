-- The invariant: the calls so far are put.
use Rattle.base.proofs.Prelude.{◌≡◌, take}
use Rattle.calls.specs.Records.{numbers_of}
use Rattle.text.specs.Put.{put}
use Rattle.append.proofs.copying.copy_records.Given as goal

abbrev pub invariant-loop-i : goal.invariant-loop-i
invariant-loop-i l = l.out ≡ put l.initial.out l.at (numbers_of (take l.i l.calls))
