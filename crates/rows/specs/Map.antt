-- A map is rows, ascending strictly by their first number, the address. A lent slice holds it: the rows one after another, and zeros
-- after them.
-- Assumes nothing.
use Rattle.std.specs.Prelude.{◌≡◌, Bool, true, false, List, [], ◌∷◌, ◌++◌, map, ℕ, zero, suc, ◌+◌, ◌*◌, ◌≤◌, ◌<◌, ltb, leb, eqb, length, get_or, take, drop, Option, Some, None, Result, Ok, Err}
use Rattle.std.specs.Result.{is_ok}
use Rattle.base.specs.Choice.{pick}
use Rattle.rows.specs.Order.{ascending, zeros}
use Rattle.rows.specs.Rows.{padded, rank, stands, inserted}
use Rattle.base.specs.declared.refusal.Refusal.{Refusal}
use Rattle.base.specs.declared.refusal.Refusal.TheVariants.{ListFull}
use Rattle.rows.specs.declared.Change.{Change}
use Rattle.rows.specs.declared.Change.TheVariants.{Added, Replaced}

-- a row's first number is its address
abbrev pub key_of : List ℕ → ℕ
key_of row = get_or row 0 0

-- each row has so many numbers
abbrev pub Wide : ℕ → List (List ℕ) → Type 0
Wide stride [] = Unit {0}
Wide stride (r ∷ rs) = (length r ≡ stride) × Wide stride rs

pub record Map (stride : ℕ) (m : List (List ℕ)) : Type 0 where
  pub wide : Wide stride m
  pub rises : ascending (map key_of m) ≡ true

-- the rows one after another
unfoldable pub flat : List (List ℕ) → List ℕ
flat [] = []
flat (r ∷ rs) = r ++ flat rs

-- and zeros after them, so many places in all
abbrev pub encode : ℕ → List (List ℕ) → List ℕ
encode places m = padded places (flat m)

-- the first rows of a slice, so many
unfoldable pub map_in : ℕ → ℕ → List ℕ → List (List ℕ)
map_in stride zero list = []
map_in stride (suc n) list = take stride list ∷ map_in stride n (drop stride list)

-- they are a map, and the slice holds nothing else
pub record Held (stride count : ℕ) (list : List ℕ) : Type 0 where
  pub some : 0 < stride
  pub fits : count * stride ≤ length list
  pub rises : ascending (map key_of (map_in stride count list)) ≡ true
  pub holds : list ≡ encode (length list) (map_in stride count list)

-- the same as a test
unfoldable pub in_order : ℕ → ℕ → List ℕ → Bool
in_order stride count list =
    pick (leb (count * stride) (length list))
    (pick (ascending (map key_of (map_in stride count list))) (zeros (drop (count * stride) list)) false)
    false

-- ---- what is asked of a map by address

-- the row at place i has the address x
unfoldable pub holds_at : List (List ℕ) → ℕ → ℕ → Bool
holds_at m i x = pick (ltb i (length m)) (eqb (key_of (get_or m i [])) x) false

unfoldable pub index_of : ℕ → List (List ℕ) → Option ℕ
index_of x m = pick (stands key_of x m) (Some (rank key_of x m)) None

-- the place of the first row at or above x
unfoldable pub at_or_above : ℕ → List (List ℕ) → Option ℕ
at_or_above x m = pick (ltb (rank key_of x m) (length m)) (Some (rank key_of x m)) None

unfoldable pub first_key : List (List ℕ) → Option ℕ
first_key [] = None
first_key (r ∷ rs) = Some (key_of r)

unfoldable pub last_key : List (List ℕ) → Option ℕ
last_key [] = None
last_key (r ∷ []) = Some (key_of r)
last_key (r ∷ s ∷ rs) = last_key (s ∷ rs)

abbrev pub stands-in : List (List ℕ) → ℕ → Bool
stands-in m x = stands key_of x m

-- ---- an insert

-- a row of a map's width in so many places: held it is replaced; else it is added where its places are free
unfoldable pub answer : ℕ → ℕ → List ℕ → List (List ℕ) → Result Change Refusal
answer stride places row m =
    pick (stands key_of (key_of row) m) (Ok Replaced) (pick (leb (length m * stride + stride) places) (Ok Added) (Err ListFull))

abbrev pub map_after : Result Change Refusal → List ℕ → List (List ℕ) → List (List ℕ)
map_after (Ok change) row m = inserted key_of row m
map_after (Err refusal) row m = m

abbrev pub count_after : Result Change Refusal → ℕ → ℕ
count_after (Ok Added) count = count + 1
count_after (Ok Replaced) count = count
count_after (Err refusal) count = count

-- an insert of the row answered r and left the slice after
pub record Inserted (stride count : ℕ) (list row : List ℕ) (r : Result Change Refusal) (after : List ℕ) : Type 0 where
  pub says : r ≡ answer stride (length list) row (map_in stride count list)
  pub held : Held stride (count_after r count) after
  pub leaves : map_in stride (count_after r count) after ≡ map_after r row (map_in stride count list)

-- a map's rows fit so many places
abbrev pub fits : ℕ → ℕ → List (List ℕ) → Bool
fits stride places m = leb (length m * stride) places

-- an entry left so many rows: those that it counts, or, refused, those that were there
abbrev pub rows_left : Result ℕ Refusal → ℕ → ℕ
rows_left (Ok count) was = count
rows_left (Err refusal) was = was

-- the row is in the map, if the map then fits, and else all is as it was
pub record Entering (stride count : ℕ) (list row : List ℕ) (r : Result ℕ Refusal) (after : List ℕ) : Type 0 where
  pub held : Held stride (rows_left r count) after
  pub says : r ≡ pick (fits stride (length list) (inserted key_of row (map_in stride count list))) (Ok (rows_left r count)) (Err ListFull)
  pub leaves : map_in stride (rows_left r count) after ≡ pick (is_ok r) (inserted key_of row (map_in stride count list)) (map_in stride count list)
