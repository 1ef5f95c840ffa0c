-- The first four refusals: the first check that fails.
-- Assumes nothing.
use Rattle.std.specs.Prelude.{Result, Ok, Err, Bool, true, List, [], ◌∷◌, ℕ, ◌+◌, ◌%◌, eqb, leb, length}
use Rattle.base.specs.Choice.{pick, both, either}
use Rattle.base.specs.declared.refusal.Refusal.{Refusal}
use Rattle.base.specs.declared.refusal.Refusal.TheVariants.{BadWindow, BadStart, UnalignedStart, BadLists}
use Rattle.context.specs.Lists.{Lists, maps_in}
use Rattle.context.specs.Turn.{key_or0}
use Rattle.lists.specs.Lists.{are_in_order}
use Rattle.rows.specs.Map.{key_of, stands-in, last_key, in_order}
use Rattle.walk.specs.declared.Options.{Options}
use Rattle.walk.specs.declared.Progress.{Progress}
use Rattle.walk.specs.declared.Walk.{Walk}

-- the addresses of a program
abbrev pub low : ℕ
low = 0x01FF_8000

abbrev pub high : ℕ
high = 0x0300_0000

-- 1: base, code end and module end are in the program's range, and the module starts at most at its end
unfoldable pub is_window : Options → ℕ → Bool
is_window o length =
    both (leb low o.base)
    (both (leb (o.base + length) high) (both (leb o.module_end high) (leb o.module_start o.module_end)))

-- 2: the start is at or above base, and at most the code's end
unfoldable pub is_in_code : ℕ → ℕ → ℕ → Bool
is_in_code base length start = both (leb base start) (leb start (base + length))

-- 4: the existing starts ascend strictly
unfoldable pub are_starts : List ℕ → Bool
are_starts starts = in_order 1 (length starts) starts

unfoldable pub begin_check : Options → ℕ → ℕ → List ℕ → Result (Unit {0}) Refusal
begin_check o start length starts =
    pick (is_window o length)
    (pick (is_in_code o.base length start)
    (pick (eqb (start % 4) 0)
    (pick (are_starts starts) (Ok tt) (Err BadLists))
    (Err UnalignedStart)) (Err BadStart)) (Err BadWindow)

-- a pool lies wholly in the code, and so does each
unfoldable pub is_whole : ℕ → ℕ → ℕ → Bool
is_whole base length pool = both (leb base pool) (leb (pool + 4) (base + length))

unfoldable pub are_whole : ℕ → ℕ → List (List ℕ) → Bool
are_whole base length [] = true
are_whole base length (p ∷ ps) = both (is_whole base length (key_of p)) (are_whole base length ps)

-- each register's pool is in the list
unfoldable pub are_held : List ℕ → List (List ℕ) → Bool
are_held [] pools = true
are_held (s ∷ ss) pools = both (either (eqb s 0) (stands-in pools s)) (are_held ss pools)

-- the pools, the walk's last pool and the registers' pools
unfoldable pub are_pools : ℕ → ℕ → ℕ → List ℕ → List (List ℕ) → Bool
are_pools base length last_pool sources pools =
    both (are_whole base length pools) (both (eqb last_pool (key_or0 (last_key pools))) (are_held sources pools))

-- the instruction bytes lie between the requested start and the walk's address
unfoldable pub are_bytes : Progress → Bool
are_bytes p = leb (p.start + p.instruction_bytes) p.address

-- all that 4 asks of the lists at a step
unfoldable pub are_lists : Options → ℕ → Walk → Lists → Bool
are_lists o length w l =
    both (are_in_order w.counts l)
    (are_pools o.base length w.progress.last_pool_address w.registers.sources (maps_in w.counts l).pools)

-- at a step also a walk address below base is 2
unfoldable pub step_check : Options → ℕ → List ℕ → Walk → Lists → Result (Unit {0}) Refusal
step_check o length starts w l =
    pick (is_window o length)
    (pick (both (is_in_code o.base length w.progress.start) (leb o.base w.progress.address))
    (pick (eqb (w.progress.start % 4) 0)
    (pick (both (are_starts starts) (both (are_bytes w.progress) (are_lists o length w l))) (Ok tt) (Err BadLists))
    (Err UnalignedStart)) (Err BadStart)) (Err BadWindow)
