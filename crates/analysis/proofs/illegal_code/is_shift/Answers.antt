-- `is_shift` meets its contract.
use Rattle.base.proofs.Prelude.{◌≡◌, false, subst, sym, eq-eqb, ne_eqb, T}
use Rattle.classes.specs.declared.Class.{Class}
use Rattle.classes.specs.declared.Class.TheVariants.{Lsl, Lsr, Asr, Ror}
use Rattle.classes.specs.Class.{class_no, is}
use Rattle.classes.proofs.Numbers.{same_number}
use Rattle.analysis.specs.IllegalCode.{is_shift}
use Rattle.analysis.proofs.illegal_code.is_shift.Goals as goal

other : (j k : Class) → (j ≡ k → ⊥) → is j k ≡ false
other j k h = ne_eqb (class_no j) (class_no k) (λ e. h (same_number j k (subst T (sym (eq-eqb (class_no j) (class_no k) e)) tt)))

pub returns-in_default : goal.returns-in_default
unfolding is_shift
returns-in_default c =
    let k = c.args.ins.class in
    let d = c.in_default in
    rw (other k Lsl d.not-Lsl, other k Lsr d.not-Lsr, other k Asr d.not-Asr, other k Ror d.not-Ror)
