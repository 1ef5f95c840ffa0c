-- Each block of a step on two codes. Only the test behind a return and a pool load read the code.
-- Assumes nothing.
use Rattle.base.proofs.Prelude.{refl, ◌≡◌, false, true, Bool, not, List, [], ◌∷◌, ◌≤◌, ℕ, ◌+◌, arith, eqb, ltb, length, get_or, set, ltb-true}
use Rattle.std.specs.Prelude.{Option, Some, None, Result, Ok, Err}
use Rattle.base.specs.declared.refusal.Refusal.{Refusal}
use Rattle.analysis.specs.declared.illegal_code.IllegalCodeState.{IllegalCodeState}
use Rattle.analysis.specs.declared.illegal_code.IllegalCodeState.TheVariants.{Start, ShiftedRegisterValue, Illegal}
use Rattle.analysis.specs.declared.inline_table.InlineTable.{InlineTable}
use Rattle.analysis.specs.declared.inline_table.InlineTableState.{InlineTableState}
use Rattle.analysis.specs.IllegalCode.{illegal_code as code_machine}
use Rattle.analysis.specs.InlineTable.{inline_table as inline_machine, table_of}
use Rattle.analysis.specs.JumpTable.{Answer, jump_table as jump_machine, table_end}
use Rattle.arm.specs.declared.Ins.{Ins}
use Rattle.arm.specs.Ins.{is_conditional}
use Rattle.base.specs.Choice.{pick, both, either}
use Rattle.base.specs.declared.refusal.Refusal.TheVariants.{BranchOutside, PoolOutside, UndefinedRegister, Beyond32Bits, ListFull}
use Rattle.base.specs.Words.{word_from}
use Rattle.context.specs.Blocks.{arm, thumb, other, raised_to_table, after_code, marked, is_destination, is_entry_at, is_long_branch_destination, past_gap}
use Rattle.context.specs.Blocks.{tabled, after_jump, jump_table, illegal_code, branch_outside, mark_pool, forget_written, call_to, is_tail_call, is_in}
use Rattle.context.specs.Blocks.{final_return, entry_after_branch, to_label, past_pools, raises_label, label_raised, handle_label, is_other_function, branches}
use Rattle.context.specs.Blocks.{branched, branch, loaded, pool_load, after_inline, inline_table, called_as, function_call, check_defined}
use Rattle.context.specs.Context.{Given, Context, on, ends, refuses, going_to, with_progress, with_machines, with_registers, with_maps, raising, table_to}
use Rattle.context.specs.Context.{pool_to, defining, jump_table_to, inline_table_to, illegal_code_to, labels_to, jump_tables_to, inline_tables_to, calls_to}
use Rattle.context.specs.Context.{enter_label, enter_jump_table, enter_inline_table, enter_call, label_row, pool_row, table_row, call_row}
use Rattle.predicates.specs.declared.Mode.{Mode}
use Rattle.predicates.specs.declared.Mode.TheVariants.{Arm, Thumb, Other}
use Rattle.predicates.specs.Predicates.{is_branch, is_bx, is_entry_instruction, is_pool_load, pool_address, is_function_call}
use Rattle.registers.specs.Registers.{column_forgotten, forgotten, holding, source_of}
use Rattle.base.proofs.ChoiceLaws.{both-second}
use Rattle.rows.specs.Rows.{inserted}
use Rattle.rows.specs.Map.{key_of, stands-in, at_or_above, fits}
use Rattle.rows.specs.Run.{gap_from}
use Rattle.walk.specs.Checking.{undefined_register, defined_after}
use Rattle.stability.proofs.CodeLaws.{word-inside, inside_found, inside-longer, longer-found}
use Rattle.stability.proofs.PairLaws.{Words, paired-length, paired-stands, paired-stands-in, paired-inserted, paired-marked}
use Rattle.stability.proofs.AlikeLaws.{Twins, Stays, Alike, both-on, both_end, both-refuse, first-lacks, Blind, first, second, then-alike}
use Rattle.stability.proofs.AlikeLaws.{pick-told, pick-alike}

-- a word that the first code has is an entry instruction in both or in neither
abbrev pub SameEntry : List ℕ → List ℕ → ℕ → ℕ → Type 0
SameEntry c d base next = next + 4 ≤ base + length c → is_entry_at d base next ≡ is_entry_at c base next

module _ (g : Given) (c d : List ℕ) (a : ℕ) where
  -- ---- up to the return; the two skips are in TurnLaws

  raised-to-table : (end : Result (Option ℕ) Refusal) → Blind g c d a (raised_to_table end)
  raised-to-table (Ok (Some end)) x t s = both-on (with_progress (table_to end (raising end x.progress)) x) t s
  raised-to-table (Ok None) x t s = both-on x t s
  raised-to-table (Err refusal) x t s = both-refuse refusal 0

  -- an insertion into a list other than the pools
  enters : (b : Bool) → Blind g c d a (λ x. pick b (on x) (refuses ListFull 0))
  enters b x t s = pick-alike b (both-on x t s) (both-refuse ListFull 0)

  enter-label : (row : List ℕ) → Blind g c d a (enter_label row)
  enter-label row x t s =
      let m = inserted key_of row x.maps.labels in
      enters (fits label_row g.places.labels m) (with_maps (labels_to m x.maps) x) t s

  enter-jump-table : (row : List ℕ) → Blind g c d a (enter_jump_table row)
  enter-jump-table row x t s =
      let m = inserted key_of row x.maps.jump_tables in
      enters (fits table_row g.places.jump_tables m) (with_maps (jump_tables_to m x.maps) x) t s

  enter-inline-table : (row : List ℕ) → Blind g c d a (enter_inline_table row)
  enter-inline-table row x t s =
      let m = inserted key_of row x.maps.inline_tables in
      enters (fits table_row g.places.inline_tables m) (with_maps (inline_tables_to m x.maps) x) t s

  enter-call : (row : List ℕ) → Blind g c d a (enter_call row)
  enter-call row x t s =
      let m = inserted key_of row x.maps.calls in
      enters (fits call_row g.places.calls m) (with_maps (calls_to m x.maps) x) t s

  after-code : (state : IllegalCodeState) → Blind g c d a (after_code state)
  after-code Start x t s = both-on x t s
  after-code (ShiftedRegisterValue r) x t s = both-on x t s
  after-code (Illegal reason) x t s = both-refuse reason 0

  past-gap : (gap : Option ℕ) → Blind g c d a (past_gap gap)
  past-gap (Some after) x t s = both-on (going_to after x) t s
  past-gap None x t s = both-refuse Beyond32Bits 0

  table-found : (table : Option InlineTable) → Blind g c d a (tabled table)
  table-found (Some table) x t s = enter-inline-table (table.address ∷ table.size ∷ []) x t s
  table-found None x t s = both-on x t s

  module _ (i : Ins) where
    after-jump : (answer : Answer) → Blind g c d a (after_jump i answer)
    after-jump (Ok (state, None)) x t s = raised-to-table (table_end state) (with_machines (jump_table_to state x.machines) x) t s
    after-jump (Ok (state, Some table)) x t s =
        then-alike (raised_to_table (table_end state))
        (enter-jump-table (table.address ∷ table.size ∷ []) (with_machines (jump_table_to state x.machines) x) t s)
        (raised-to-table (table_end state))
    after-jump (Err refusal) x t s = both-refuse refusal 0

    pub jump-table : Blind g c d a (jump_table i)
    unfolding jump_table
    jump-table x t s = after-jump (jump_machine x.machines.jump_table x.progress.address i) x t s

    pub illegal-code : Blind g c d a (illegal_code i)
    unfolding illegal_code
    illegal-code x t s =
        let state = code_machine x.machines.illegal_code i in
        after-code state (with_machines (illegal_code_to state x.machines) x) t s

    pub branch-outside : Blind g c d a (branch_outside i)
    unfolding branch_outside
    branch-outside x t s =
        pick-alike (both (is_branch i) (not (is_in 0x01FF_8000 0x0300_0000 i.target))) (both-refuse BranchOutside 0) (both-on x t s)

    pub mark-pool : Blind g c d a (mark_pool i)
    unfolding mark_pool source_of
    mark-pool x t s =
        let source = source_of x.registers i.rm in
        pick-alike (both (is_bx i) (not (eqb source 0)))
        (both-on x
        (record {
          pools = marked source t.pools;
          others = marked source t.others;
          values = t.values;
          other_values = t.other_values;
          paired = paired-marked c d g.options.base source t.paired;
        }) s)
        (both-on x t s)

    pub forget-written : Blind g c d a (forget_written i)
    unfolding forget_written forgotten
    forget-written x t s =
        both-on (with_registers (forgotten x.registers i.defs) x)
        (record {
          pools = t.pools;
          others = t.others;
          values = column_forgotten i.defs t.values;
          other_values = column_forgotten i.defs t.other_values;
          paired = t.paired;
        }) s

    -- ---- from the return on

    call-to : (word mode : ℕ) → Blind g c d a (call_to i word mode)
    call-to word mode x t s = enter-call (x.progress.address ∷ word ∷ i.target ∷ mode ∷ []) x t s

    -- the word behind a return, where a pool lies further on
    module _ (word size : ℕ) (block returns : Bool) (entry : returns ≡ true → SameEntry c d g.options.base (a + size)) where
      long-branch : returns ≡ true → (x : Context) (t : Twins g c d a) → Stays g c d a x
          → is_long_branch_destination (x.progress.address + size) (second g c d a t x)
          ≡ is_long_branch_destination (x.progress.address + size) (first g c d a t x)
      unfolding is_long_branch_destination
      long-branch r x t s = rw s.at (step (ltb (a + size) x.progress.last_pool_address) refl)
        where
          step : (b : Bool) → ltb (a + size) x.progress.last_pool_address ≡ b
              → both b (both (is_destination (a + size) x.maps.calls) (not (is_entry_at d g.options.base (a + size))))
              ≡ both b (both (is_destination (a + size) x.maps.calls) (not (is_entry_at c g.options.base (a + size))))
          step true e = let last = s.last in let below = ltb-true (a + size) x.progress.last_pool_address e in rw (entry r (omega arith))
          step false e = refl

      pub final-return : Blind g c d a (final_return i word size block returns)
      unfolding final_return is_tail_call
      final-return x t s =
          let next = x.progress.address + size in
          pick-told (both (not block) returns)
          (λ e.
          rw (long-branch (both-second (not block) returns e) x t s)
          (pick-alike (is_long_branch_destination next (first g c d a t x))
          (both-on (with_progress (raising next x.progress) x) t s)
          (then-alike (ends next)
          (pick-alike (is_tail_call i size x) (call-to word arm x t s) (both-on x t s))
          (λ y u r. both_end next y u))))
          (both-on x t s)

    pub entry-after-branch : (block : Bool) → Blind g c d a (entry_after_branch i block)
    unfolding entry_after_branch
    entry-after-branch block x t s =
        pick-alike (both (ltb x.progress.start x.progress.address)
        (both (is_entry_instruction i)
        (both x.progress.previous.is_branch (either block x.progress.previous.is_conditional))))
        (both_end x.progress.address x t)
        (both-on x t s)

    to-label : (size : ℕ) (found : Option ℕ) → Blind g c d a (to_label i size found)
    to-label size (Some k) x t s = both-on (going_to (key_of (get_or x.maps.labels k [])) x) t s
    to-label size None x t s =
        rw (paired-stands-in c d g.options.base t.paired)
        (pick-alike (ltb x.progress.address i.target)
        (both_end (x.progress.address + size) x t)
        (past-gap (gap_from (stands-in t.pools) (x.progress.address + size)) x t s))

    past-pools : (size : ℕ) → Blind g c d a (past_pools i size)
    unfolding past_pools
    past-pools size x t s =
        rw (paired-stands c d g.options.base (x.progress.address + size) t.paired)
        (pick-alike (stands-in t.pools (x.progress.address + size))
        (to-label size (at_or_above x.next x.maps.labels) x t s)
        (both-on x t s))

    handle-label : (size : ℕ) (block : Bool) → Blind g c d a (handle_label i size block)
    unfolding handle_label label_raised raises_label
    handle-label size block x t s =
        then-alike (λ y. past_pools i size (label_raised i block y)) (enter-label (i.target ∷ []) x t s)
        (λ y u r. step (raises_label i block y) y u r)
      where
        step : (b : Bool) → Blind g c d a (λ y. past_pools i size (pick b (with_progress (raising i.target y.progress) y) y))
        step true y u r = past-pools size (with_progress (raising i.target y.progress) y) u r
        step false y u r = past-pools size y u r

    branches-alike : (word size : ℕ) (block : Bool) → Blind g c d a (branches i word size block)
    unfolding branches is_other_function
    branches-alike word size block x t s =
        pick-alike (is_in g.options.module_start g.options.module_end i.target)
        (pick-alike (is_other_function i (first g c d a t x))
        (pick-alike (both (not (is_conditional i.cond)) (not block)) (both_end (x.progress.address + size) x t) (call-to word arm x t s))
        (handle-label size block x t s))
        (call-to word arm x t s)

    pub branch-alike : (word size : ℕ) (block : Bool) → Blind g c d a (branch i word size block)
    unfolding branch branched
    branch-alike word size block x t s =
        pick-alike (is_branch i) (branches-alike word size block (branched i x) t s) (both-on (branched i x) t s)

    -- a pool load: only the value differs
    loads : (at u v : ℕ) → Words c d g.options.base at u v
        → (x : Context) (t : Twins g c d a) → Stays g c d a x
        → Alike g c d a (loaded i at (Some u) (first g c d a t x)) (loaded i at (Some v) (second g c d a t x))
    unfolding holding
    loads at u v w x t s =
        let pools = paired-inserted c d g.options.base at u v other w t.paired in
        let inside = inside_found c g.options.base at u w.first in
        rw (paired-length c d g.options.base pools)
        (then-alike (λ y. on (with_progress (pool_to at y.progress) y))
        (pick-alike (fits pool_row g.places.pools (inserted key_of (at ∷ u ∷ other ∷ []) t.pools))
        (both-on (with_registers (holding x.registers i.rd u at) x)
        (record {
          pools = inserted key_of (at ∷ u ∷ other ∷ []) t.pools;
          others = inserted key_of (at ∷ v ∷ other ∷ []) t.others;
          values = set t.values i.rd u;
          other_values = set t.other_values i.rd v;
          paired = pools;
        }) s)
        (both-refuse ListFull 0))
        (λ y z r. both-on (with_progress (pool_to at y.progress) y) z (record { at = r.at; last = let last = r.last in omega arith })))

    -- what the first code has, a code as long has too
    load-alike : length c ≤ length d → (at : ℕ) (y z : Option ℕ) → word_from c g.options.base at ≡ y → word_from d g.options.base at ≡ z
        → (x : Context) (t : Twins g c d a) → Stays g c d a x
        → Alike g c d a (loaded i at y (first g c d a t x)) (loaded i at z (second g c d a t x))
    load-alike longer at (Some u) (Some v) e f x t s = loads at u v (record { first = e; second = f }) x t s
    load-alike longer at (Some u) None e f x t s =
        let found = word-inside d g.options.base at (inside-longer c d g.options.base at longer (inside_found c g.options.base at u e)) in
        absurd (let z : ◌≡◌ {A = ℕ} 0 1 = cc in omega arith)
    load-alike longer at None (Some v) e f x t s = first-lacks (longer-found c d g.options.base at v e f)
    load-alike longer at None None e f x t s = both-refuse PoolOutside 0

    pub pool-load : length c ≤ length d → Blind g c d a (pool_load i)
    unfolding pool_load
    pool-load longer x t s =
        let at = pool_address x.progress.address i in
        pick-alike (is_pool_load i)
        (load-alike longer at (word_from c g.options.base at) (word_from d g.options.base at) refl refl x t s)
        (both-on x t s)

    after-inline : (answer : Result InlineTableState Refusal) → Blind g c d a (after_inline i answer)
    after-inline (Ok state) x t s = table-found (table_of state) (with_machines (inline_table_to state x.machines) x) t s
    after-inline (Err refusal) x t s = both-refuse refusal 0

    pub inline-table : Blind g c d a (inline_table i)
    unfolding inline_table
    inline-table x t s = after-inline (inline_machine x.machines.inline_table false x.progress.address i) x t s

    called-as : (word : ℕ) (callee : Option Mode) → Blind g c d a (called_as i word callee)
    called-as word None x t s = both-on x t s
    called-as word (Some Arm) x t s = call-to word arm x t s
    called-as word (Some Thumb) x t s = call-to word thumb x t s
    called-as word (Some (Other mode)) x t s = call-to word mode x t s

    pub function-call : (word : ℕ) → Blind g c d a (function_call i word)
    unfolding function_call
    function-call word x t s = called-as word (is_function_call i) x t s

    pub check-defined : (returns : Bool) → Blind g c d a (check_defined i returns)
    unfolding check_defined
    check-defined returns x t s =
        let check = g.options.check in
        let defined = x.progress.defined_registers in
        pick-alike (ltb (undefined_register check defined i) 16)
        (both-refuse UndefinedRegister (undefined_register check defined i))
        (both-on (with_progress (defining (defined_after check defined i returns) x.progress) x) t s)
