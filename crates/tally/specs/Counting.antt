-- How many of the 2^32 words a class has, under the conditions 1110 and 1111 and under the others.
-- Assumes nothing.
use Rattle.std.specs.Prelude.{ℕ, zero, suc, ◌+◌, ◌^◌, Bool, true, false, not}
use Rattle.base.specs.Choice.{both}
use Rattle.classes.specs.declared.Class.{Class}
use Rattle.classes.specs.Class.{is}
use Rattle.classes.specs.Fields.{cond_of}
use Rattle.arm.specs.Ins.{is_conditional}
use Rattle.arm.specs.Naming.{class_of}

-- 1 where a test passes
abbrev pub one : Bool → ℕ
one true = 1
one false = 0

-- how many numbers below n pass a test
unfoldable pub how_many : (ℕ → Bool) → ℕ → ℕ
how_many p zero = 0
how_many p (suc n) = how_many p n + one (p n)

-- the words of class k whose condition is 1110 or 1111
unfoldable pub unconditional_words : Class → ℕ
unconditional_words k = how_many (λ (w : ℕ). both (not (is_conditional (cond_of w))) (is (class_of w) k)) (2 ^ 32)

-- the words of class k under another condition
unfoldable pub conditional_words : Class → ℕ
conditional_words k = how_many (λ (w : ℕ). both (is_conditional (cond_of w)) (is (class_of w) k)) (2 ^ 32)
