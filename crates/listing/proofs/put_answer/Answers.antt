-- `listing::put_answer` meets its contract.
use Rattle.base.proofs.Prelude.{arith}
use Rattle.text.proofs.Writers.{wrote_none, wrote_then}
use Rattle.listing.specs.Listing.{text_with, room_with}
use Rattle.listing.proofs.put_answer.Goals as goal

pub put_record-requires : goal.put_record-requires
unfolding room_with
put_record-requires c = omega (arith, c.requires.0)

pub put_lists-requires : goal.put_lists-requires
unfolding room_with
put_lists-requires c = (omega (arith, c.requires.0, c.put_record.ensures.1), c.requires.1)

pub put_refusal-requires : goal.put_refusal-requires
unfolding room_with
put_refusal-requires c = omega (arith, c.requires.0)

pub returns-in-Going : goal.returns-in-Going
unfolding text_with
returns-in-Going c = rw c.in-Going.is (wrote_none _)

pub returns-in-Accepted : goal.returns-in-Accepted
unfolding text_with
returns-in-Accepted c = rw c.in-Accepted.is (wrote_then c.put_record.ensures.0 c.put_lists.ensures)

pub returns-in-Refused : goal.returns-in-Refused
unfolding text_with
returns-in-Refused c = rw c.in-Refused.is c.put_refusal.ensures
