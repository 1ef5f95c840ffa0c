-- A class is known by its place in the declaration: `class as u8` gives its number, and the derived `==` compares the two numbers.
use mathlib.Core.Path.{◌≡◌, sym, ap₂, ◌∙◌}
use Prim.Native.Nat.{◌<◌}
use mathlib.Core.Bool.{false}
use native.Mathlib.Omega.{arith}
use lib.Dec.{T, eqb, eqb→eq}
use borrow.Enum.Match.{tag_small}
use denote.Enum.Bare.{sameb, tag_one, false_same}
use denote.Enum.Declared.{tag_of}
use Rattle.classes.specs.declared.Class.{Class}
use Rattle.classes.specs.Class.{class_no, is}
use Rattle.classes.specs.contracts.Class as ClassType

pub tag-no : (k : Class) → tag_of ClassType.the_type k ≡ class_no k
unfolding class_no
tag-no k = grind arith

pub ruleset numbers = (tag-no)

-- the derived test of two classes, as the definitions have it
pub same_class : (j k : Class) → sameb ClassType.the_type j k ≡ is j k
same_class j k = ap₂ eqb (tag-no j) (tag-no k)

-- that test of two classes that are not one
pub other_class : (j k : Class) → (j ≡ k → ⊥) → is j k ≡ false
other_class j k n = sym (same_class j k) ∙ false_same ClassType.the_type tt j k n

pub same_number : (j k : Class) → T (eqb (class_no j) (class_no k)) → j ≡ k
same_number j k t = tag_one ClassType.the_type tt j k (tag-no j ∙ eqb→eq (class_no j) (class_no k) t ∙ sym (tag-no k))

pub class-below : (k : Class) → class_no k < 74
class-below k = rw (← tag-no k) (tag_small ClassType.the_type k)
