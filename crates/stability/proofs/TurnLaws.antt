-- One turn of the walk on two codes.
-- Assumes nothing.
use Rattle.base.proofs.Prelude.{refl, ◌≡◌, true, false, Bool, List, [], some, none, Option, ◌≤◌, ℕ, ◌+◌, ◌<◌, ◌-◌, arith, ltb, length}
use Rattle.arm.specs.declared.Ins.{Ins}
use Rattle.arm.specs.Ins.{decode_of}
use Rattle.std.specs.Prelude.{Option as Optional, Some, None}
use Rattle.base.specs.Choice.{pick}
use Rattle.base.specs.declared.refusal.Refusal.TheVariants.{PoolOutside, Beyond32Bits, NoEpilogue}
use Rattle.base.specs.Words.{word_from}
use Rattle.context.specs.Blocks.{table_end_at, inline_table_at, skips_to, skip_pool, skip_inline_table, jump_table, illegal_code, branch_outside, mark_pool}
use Rattle.context.specs.Blocks.{forget_written, in_conditional_block, entry_after_branch, branch, pool_load, inline_table, function_call, check_defined}
use Rattle.context.specs.Blocks.{from_return, to_return, handle_ins_inner, passed, handle_ins}
use Rattle.context.specs.Context.{Maps, Given, Context, Step, on, goes, refuses, ◌▸◌, going_to, with_progress, counting, moving, pools_to}
use Rattle.context.specs.Turn.{arm_size, Turned, context_at, walk_of, closed, function_of, bytes_to_end, settled, with_saved, turn_at, turn}
use Rattle.predicates.specs.declared.Previous.{Previous}
use Rattle.predicates.specs.Predicates.{is_return, as_previous}
use Rattle.rows.specs.Map.{stands-in}
use Rattle.walk.specs.declared.Answer.{Answer}
use Rattle.walk.specs.declared.Answer.TheVariants.{Going, Accepted, Refused}
use Rattle.walk.specs.declared.Walk.{Walk}
use Rattle.stability.proofs.PairLaws.{Paired, none as no-pools, paired-length, paired-stands, paired-first}
use Rattle.stability.proofs.AlikeLaws.{Twins, Stays, Alike, both-on, both_go, both_end, both-refuse, first-lacks, Blind, first, second}
use Rattle.stability.proofs.AlikeLaws.{then-alike, code_to}
use Rattle.stability.proofs.BlindLaws.{SameEntry, jump-table, illegal-code, branch-outside, mark-pool, forget-written, final-return}
use Rattle.stability.proofs.BlindLaws.{entry-after-branch, branch-alike, pool-load, inline-table, function-call, check-defined}

-- no pool and no inline table lies at the address
pub record IsCode (a : ℕ) (m : Maps) : Type 0 where
  pub pools : stands-in m.pools a ≡ false
  pub tables : inline_table_at a m.inline_tables ≡ none

-- what is read behind an instruction that returns
abbrev pub SameBehind : List ℕ → List ℕ → ℕ → ℕ → ℕ → Ins → Maps → Type 0
SameBehind c d base a size i m = IsCode a m → (p : Previous) → is_return a i p ≡ true → SameEntry c d base (a + size)

-- ---- an instruction

module _ (g : Given) (c d : List ℕ) (longer : length c ≤ length d) (a : ℕ) (i : Ins) (word size : ℕ) where
  from-return : (block returns : Bool) → (returns ≡ true → SameEntry c d g.options.base (a + size))
      → Blind g c d a (from_return i word size block returns)
  unfolding from_return
  from-return block returns entry x t s =
      let one = final-return g c d a i word size block returns entry x t s in
      let two = then-alike (entry_after_branch i block) one (entry-after-branch g c d a i block) in
      let three = then-alike (branch i word size block) two (branch-alike g c d a i word size block) in
      let four = then-alike (pool_load i) three (pool-load g c d a i longer) in
      let five = then-alike (inline_table i) four (inline-table g c d a i) in
      let six = then-alike (function_call i word) five (function-call g c d a i word) in
      then-alike (check_defined i returns) six (check-defined g c d a i returns)

  abbrev after_return : Context → Step
  after_return x = from_return i word size (in_conditional_block x) (is_return x.progress.address i x.progress.previous) x

  -- what follows on the two skips
  abbrev as_code : Step → Step
  as_code s = s ▸ jump_table i ▸ illegal_code i ▸ branch_outside i ▸ mark_pool i ▸ forget_written i ▸ after_return

  module _ (entry : (p : Previous) → is_return a i p ≡ true → SameEntry c d g.options.base (a + size)) where
    after-return : Blind g c d a after_return
    unfolding in_conditional_block
    after-return x t s =
        from-return (in_conditional_block x) (is_return x.progress.address i x.progress.previous)
        (λ r. entry x.progress.previous (rw s.at at r)) x t s

    taken-as_code : (x : Context) (t : Twins g c d a) → Stays g c d a x
        → Alike g c d a (as_code (on (first g c d a t x))) (as_code (on (second g c d a t x)))
    taken-as_code x t s =
        let one = jump-table g c d a i x t s in
        let two = then-alike (illegal_code i) one (illegal-code g c d a i) in
        let three = then-alike (branch_outside i) two (branch-outside g c d a i) in
        let four = then-alike (mark_pool i) three (mark-pool g c d a i) in
        let five = then-alike (forget_written i) four (forget-written g c d a i) in
        then-alike after_return five after-return

  module _ (x : Context) (t : Twins g c d a) (s : Stays g c d a x)
      (behind : SameBehind c d g.options.base a size i (pools_to t.pools x.maps)) where
    past-pool : stands-in t.pools x.progress.address ≡ false
        → Alike g c d a (as_code (skip_inline_table (first g c d a t x))) (as_code (skip_inline_table (second g c d a t x)))
    unfolding skip_inline_table
    past-pool e = step (inline_table_at x.progress.address x.maps.inline_tables) refl
      where
        skips : (b : Bool) (end : ℕ)
            → Alike g c d a
            (as_code (pick b (goes (going_to end (first g c d a t x))) (refuses Beyond32Bits 0)))
            (as_code (pick b (goes (going_to end (second g c d a t x))) (refuses Beyond32Bits 0)))
        skips true end = both_go (going_to end x) t
        skips false end = both-refuse Beyond32Bits 0

        step : (table : Option (List ℕ)) → inline_table_at x.progress.address x.maps.inline_tables ≡ table
            → Alike g c d a (as_code (skips_to table (first g c d a t x))) (as_code (skips_to table (second g c d a t x)))
        step none f = taken-as_code (behind (record { pools = rw s.at at e; tables = rw s.at at f })) x t s
        step (some table) f = skips (ltb (table_end_at table) 0x1_0000_0000) (table_end_at table)

    inner-alike : Alike g c d a (handle_ins_inner i word size (first g c d a t x)) (handle_ins_inner i word size (second g c d a t x))
    unfolding handle_ins_inner to_return skip_pool
    inner-alike =
        rw (paired-stands c d g.options.base x.progress.address t.paired) (step (stands-in t.pools x.progress.address) refl)
      where
        step : (b : Bool) → stands-in t.pools x.progress.address ≡ b
            → Alike g c d a
            (as_code (pick b (goes (going_to (x.progress.address + 4) (first g c d a t x))) (on (first g c d a t x)) ▸ skip_inline_table))
            (as_code (pick b (goes (going_to (x.progress.address + 4) (second g c d a t x))) (on (second g c d a t x)) ▸ skip_inline_table))
        step true e = both_go (going_to (x.progress.address + 4) x) t
        step false e = past-pool e

  passed-alike : (bytes : ℕ) {s t : Step} → Alike g c d a s t → Alike g c d a (passed i bytes s) (passed i bytes t)
  passed-alike bytes (both-on x t s) = both_go (with_progress (moving x.next (as_previous i) (counting bytes x.progress)) x) t
  passed-alike bytes (both_go x t) = both_go (with_progress (moving x.next (as_previous i) x.progress) x) t
  passed-alike bytes (both_end end x t) = both_end end x t
  passed-alike bytes (both-refuse n r) = both-refuse n r
  passed-alike bytes (first-lacks h) = first-lacks h

  pub handle-ins : (x : Context) (t : Twins g c d a) → Stays g c d a x
      → SameBehind c d g.options.base a size i (pools_to t.pools x.maps)
      → Alike g c d a (handle_ins i word size (first g c d a t x)) (handle_ins i word size (second g c d a t x))
  unfolding handle_ins
  handle-ins x t s behind = passed-alike (x.progress.instruction_bytes + size) (inner-alike (going_to (x.progress.address + size) x) t s behind)

-- ---- a turn

-- the same walk, but for the values in registers
abbrev pub revalued : List ℕ → Walk → Walk
revalued values w = record {
  progress = w.progress;
  machines = w.machines;
  registers = record { values = values; sources = w.registers.sources };
  counts = w.counts;
  result = w.result;
}

-- the same, but for the values of pools and in registers
pub record SameTurn (c d : List ℕ) (base : ℕ) (s t : Turned) : Type 0 where
  pub pools : List (List ℕ)
  pub values : List ℕ
  pub walk : t.walk ≡ revalued values s.walk
  pub maps : t.maps ≡ pools_to pools s.maps
  pub paired : Paired c d base s.maps.pools pools

-- or the first code lacks a pool's word that the second has
pub data AlikeTurn (c d : List ℕ) (base : ℕ) (s t : Turned) : Type 0 where
  same : SameTurn c d base s t → AlikeTurn c d base s t
  lacks : (a : ℕ) → length c < length d → s.walk.result ≡ Refused PoolOutside a 0 → AlikeTurn c d base s t

module _ (g : Given) (c d : List ℕ) (a : ℕ) where
  walk-alike : (result : Answer) (x : Context) (t : Twins g c d a)
      → AlikeTurn c d g.options.base (walk_of result (first g c d a t x)) (walk_of result (second g c d a t x))
  walk-alike result x t =
      same (record {
        pools = t.others;
        values = t.other_values;
        walk = rw (paired-length c d g.options.base t.paired);
        maps = refl;
        paired = t.paired;
      })

  -- a refusal leaves no pools
  closed-alike : (result : Answer) (x : Context) (t : Twins g c d a)
      → AlikeTurn c d g.options.base (closed result (first g c d a t x)) (closed result (second g c d a t x))
  closed-alike Going x t = walk-alike Going x t
  closed-alike (Accepted r) x t = walk-alike (Accepted r) x t
  closed-alike (Refused n at r) x t =
      same (record { pools = []; values = t.other_values; walk = refl; maps = refl; paired = no-pools })

  -- the walk at an end, by its answer and where it stood before
  abbrev ending : ℕ → Answer → Context → Context → Context
  ending end answer x y = with_progress (counting (bytes_to_end answer end x.progress) (moving end y.progress.previous y.progress)) y

  settled-alike : (x : Context) (t : Twins g c d a) {s s' : Step} → Alike g c d a s s'
      → AlikeTurn c d g.options.base (settled (first g c d a t x) s) (settled (second g c d a t x) s')
  settled-alike x t (both-on y u s) = walk-alike Going y u
  settled-alike x t (both_go y u) = walk-alike Going y u
  settled-alike x t (both_end end y u) =
      rw (paired-first c d g.options.base u.paired)
      (closed-alike (function_of end (first g c d a u y)) (ending end (function_of end (first g c d a u y)) x y) u)
  settled-alike x t (both-refuse n r) = closed-alike (Refused n x.progress.address r) x t
  settled-alike x t (first-lacks h) = lacks x.progress.address h refl

-- where the words at the walk's address agree, and behind a return
module _ (g : Given) (c d : List ℕ) (longer : length c ≤ length d) (w : Walk) (m : Maps) (pools : List (List ℕ)) (values : List ℕ)
    (paired : Paired c d g.options.base m.pools pools)
    (last : w.progress.last_pool_address ≤ g.options.base + length c - 4)
    (here : word_from d g.options.base w.progress.address ≡ word_from c g.options.base w.progress.address)
    (behind : (word : ℕ) → word_from c g.options.base w.progress.address ≡ Some word
    → SameBehind c d g.options.base w.progress.address arm_size (decode_of word w.progress.address) m) where
  abbrev at : ℕ
  at = w.progress.address

  abbrev twins : Twins g c d at
  twins = record { pools = m.pools; others = pools; values = w.registers.values; other_values = values; paired = paired }

  pub turn-alike : AlikeTurn c d g.options.base (turn (code_to c g) w m) (turn (code_to d g) (revalued values w) (pools_to pools m))
  unfolding turn
  turn-alike = rw here (step (word_from c g.options.base at) refl)
    where
      step : (y : Optional ℕ) → word_from c g.options.base at ≡ y
          → AlikeTurn c d g.options.base
          (turn_at y (context_at (code_to c g) w m))
          (turn_at y (context_at (code_to d g) (revalued values w) (pools_to pools m)))
      step (Some word) e =
          settled-alike g c d at (context_at g w m) twins
          (handle-ins g c d longer at (decode_of word at) word arm_size (with_saved (decode_of word at) (context_at g w m)) twins (record { at = refl; last = last }) (behind word e))
      step None e = closed-alike g c d at (Refused NoEpilogue 0 0) (context_at g w m) twins

-- going on, or a record
abbrev pub Unrefused : Answer → Type 0
Unrefused Going = Unit {0}
Unrefused (Accepted r) = Unit {0}
Unrefused (Refused n a r) = ⊥

module _ {c d : List ℕ} {base : ℕ} {s t : Turned} where
  -- a turn that is not refused is the same on a longer code
  pub kept_same : AlikeTurn c d base s t → Unrefused s.walk.result → SameTurn c d base s t
  kept_same (same k) kept = k
  kept_same (lacks a h e) kept = absurd (rw e at kept)

  -- and on a code as long, a refused one too
  pub long_same : length c ≡ length d → AlikeTurn c d base s t → SameTurn c d base s t
  long_same e (same k) = k
  long_same e (lacks a h f) = absurd (omega arith)
