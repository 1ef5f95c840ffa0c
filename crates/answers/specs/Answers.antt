-- What an answer says, in document 01's terms: the number of a refusal, 0 for none; the instruction's address that it carries; and the
-- undefined register of number 11.
-- Assumes nothing.
use Rattle.std.specs.Prelude.{ℕ}
use Rattle.base.specs.Refusals.{refusal_no}
use Rattle.walk.specs.declared.Answer.{Answer}
use Rattle.walk.specs.declared.Answer.TheVariants.{Going, Accepted, Refused}

abbrev pub number_of : Answer → ℕ
number_of Going = 0
number_of (Accepted r) = 0
number_of (Refused refusal address register) = refusal_no refusal

abbrev pub address_of : Answer → ℕ
address_of Going = 0
address_of (Accepted r) = 0
address_of (Refused refusal address register) = address

abbrev pub register_of : Answer → ℕ
register_of Going = 0
register_of (Accepted r) = 0
register_of (Refused refusal address register) = register
