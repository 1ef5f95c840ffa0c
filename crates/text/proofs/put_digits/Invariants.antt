-- The invariant: the digits behind the place are written, and `rest` is the value without them.
use Rattle.base.proofs.Prelude.{◌≡◌, ◌+◌, ◌-◌, ◌^◌, ◌/◌}
use Rattle.text.specs.Put.{put}
use Rattle.text.specs.Hex.{digits}
use Rattle.text.proofs.put_digits.Given as goal

abbrev pub invariant-loop-i : goal.invariant-loop-i
invariant-loop-i l =
    (l.rest ≡ l.value / l.base ^ (l.n - l.i)) × (l.out ≡ put l.initial.out (l.at + l.i) (digits l.base (l.n - l.i) l.value))
