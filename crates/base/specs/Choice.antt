-- A choice by a test.
-- Assumes nothing.
use Rattle.std.specs.Prelude.{Bool, true, false}

-- the first where the test holds, else the second
abbrev pub pick : {A : Type 0} → Bool → A → A → A
pick true a b = a
pick false a b = b

-- the same, where only the one that is taken is worked out
abbrev pub choose : {A : Type 0} → Bool → (Unit {0} → A) → (Unit {0} → A) → A
choose true a b = a tt
choose false a b = b tt

-- both tests, and either
abbrev pub both : Bool → Bool → Bool
both s t = pick s t false

abbrev pub either : Bool → Bool → Bool
either s t = pick s true t
