-- What proofs import of the logic again and again, in one place.
-- Assumes nothing.
pub use mathlib.Core.Path.{◌∙◌, sym, ◌≡◌, refl, ap, subst, subst⁻¹}
pub use mathlib.Core.Bool.{true, false, Bool, not, false≢true}
pub use mathlib.Core.List.{List, [], ◌∷◌, ◌++◌, map, append_assoc, append-nil}
pub use mathlib.Core.Logic.{⊎_elim, inl, inr, ◌⊎◌}
pub use mathlib.Core.Option.{some, none, Option}
pub use Prim.Native.Nat.{◌≤◌, ℕ, ◌+◌, ◌<◌, ◌-◌, suc, ◌*◌, zero, ◌^◌, ◌/◌, ◌%◌, zero-le, max, suc-le-suc}
pub use native.Mathlib.Omega.{arith}
pub use native.Mathlib.Nat.{le_of_suc-le-suc, not-suc-le-zero, zero-mul, add-zero, suc-mul, eq-or-lt_of_le}
pub use native.Mathlib.Numerals.{add-one}
pub use lib.Dec.{eqb, ltb, leb, T, eqb→eq}
pub use lib.ListN.{length, drop, get_or, take, replicate, length-set, length-drop, set, length-append, length-replicate, drop_of_length-le, take-append-drop}
pub use lib.Seq.{drop-cons, length-take-le, take_at, drop_at, drop-drop, get_or-take, get_or-drop}
pub use borrow.Author.Rules.{rules}
pub use borrow.Author.Tests.{eq-eqb, ne_eqb, le-leb, le-ltb, lt-ltb, not-true, not-false, lt-leb, leb-true, eqb-true, ltb-true, ltb-false, leb-false, eqb-false}
