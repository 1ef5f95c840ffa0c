-- One block after another: a property that every assignment of a step keeps holds after each block, and so after the step.
-- Assumes nothing.
use Rattle.base.proofs.Prelude.{refl, ◌≡◌, ap, false, true, Bool, not, List, [], ◌∷◌, inr, inl, ◌⊎◌, some, none, Option, ◌≤◌, ℕ, ◌+◌, ◌<◌, suc, arith}
use Rattle.base.proofs.Prelude.{le_of_suc-le-suc, eqb, ltb, length, get_or, ltb-true, ltb-false}
use Rattle.std.specs.Prelude.{Option as Optional, Some, None, Result, Ok, Err}
use Rattle.base.specs.declared.refusal.Refusal.{Refusal}
use Rattle.base.specs.declared.refusal.Refusal.{Refusal}
use Rattle.analysis.specs.declared.illegal_code.IllegalCodeState.{IllegalCodeState}
use Rattle.analysis.specs.declared.illegal_code.IllegalCodeState.TheVariants.{Start, ShiftedRegisterValue, Illegal}
use Rattle.analysis.specs.declared.inline_table.InlineTable.{InlineTable}
use Rattle.analysis.specs.declared.inline_table.InlineTableState.{InlineTableState}
use Rattle.analysis.specs.IllegalCode.{illegal_code as code_machine}
use Rattle.analysis.specs.InlineTable.{inline_table as inline_machine, table_of}
use Rattle.analysis.specs.JumpTable.{Answer, jump_table as jump_machine, table_end}
use Rattle.arm.specs.declared.Ins.{Ins}
use Rattle.arm.specs.Ins.{is_conditional}
use Rattle.base.specs.Choice.{pick, both, either}
use Rattle.base.specs.Words.{word_from}
use Rattle.context.specs.Blocks.{other, skip_pool, skip_inline_table, inline_table_at, table_end_at, jump_table, after_jump, raised_to_table, illegal_code}
use Rattle.context.specs.Blocks.{after_code, branch_outside, in_conditional_block, marked, mark_pool, forget_written, final_return, is_tail_call}
use Rattle.context.specs.Blocks.{is_long_branch_destination}
use Rattle.context.specs.Blocks.{call_to, arm, thumb, entry_after_branch, past_gap, to_label, past_pools, raises_label, label_raised, handle_label}
use Rattle.context.specs.Blocks.{is_other_function, branches, branched, branch, loaded, pool_load, tabled, after_inline, inline_table, called_as}
use Rattle.context.specs.Blocks.{function_call, check_defined, is_in, from_return, to_return, handle_ins_inner, passed, handle_ins}
use Rattle.context.specs.Context.{Context, Maps, Step, on, goes, ends, refuses, ◌▸◌, going_to, with_progress, with_machines, with_registers, with_maps}
use Rattle.context.specs.Context.{raising, table_to, pool_to, defining, counting, moving, labels_to, pools_to, jump_tables_to, inline_tables_to, calls_to, label_row}
use Rattle.context.specs.Context.{pool_row, table_row, call_row}
use Rattle.predicates.specs.declared.Mode.{Mode}
use Rattle.predicates.specs.declared.Mode.TheVariants.{Arm, Thumb, Other}
use Rattle.predicates.specs.Predicates.{is_branch, is_bx, is_return, is_entry_instruction, is_pool_load, pool_address, is_function_call, as_previous}
use Rattle.registers.specs.Registers.{forgotten, holding, source_of}
use Rattle.rows.specs.Rows.{rank, inserted}
use Rattle.rows.specs.Map.{key_of, stands-in, at_or_above, fits}
use Rattle.rows.specs.Run.{gap_from}
use Rattle.rows.proofs.RunLaws.{gap_at}
use Rattle.base.proofs.ChoiceLaws.{both_first, both-second}
use Rattle.walk.specs.declared.Counts.{Counts}
use Rattle.walk.specs.declared.Machines.{Machines}
use Rattle.walk.specs.Checking.{undefined_register}

-- what a step comes to: P of the context that the next block gets, G of the one that the next turn gets, E of an end
pub data Meets (P G : Context → Type 0) (E : ℕ → Context → Type 0) : Step → Type 0 where
  is-on : {c : Context} → P c → Meets P G E (on c)
  has-gone : {c : Context} → G c → Meets P G E (goes c)
  has_ended : {a : ℕ} {c : Context} → E a c → Meets P G E (ends a c)
  is-refused : {n : Refusal} {r : ℕ} → Meets P G E (refuses n r)

module _ {P Q G : Context → Type 0} {E : ℕ → Context → Type 0} where
  -- blocks that come to P, and then one from P to Q
  pub chained : {s : Step} {f : Context → Step} → Meets P G E s → ((c : Context) → P c → Meets Q G E (f c)) → Meets Q G E (s ▸ f)
  chained (is-on {c} p) k = k c p
  chained (has-gone g) k = has-gone g
  chained (has_ended e) k = has_ended e
  chained is-refused k = is-refused

module _ {P G : Context → Type 0} {E : ℕ → Context → Type 0} where
  pub chosen : {s t : Step} (b : Bool) → (b ≡ true → Meets P G E s) → (b ≡ false → Meets P G E t) → Meets P G E (pick b s t)
  chosen true x y = x refl
  chosen false x y = y refl

-- where a step that skips goes on: past a pool, or past an inline table
pub data Skips (c : Context) : ℕ → Type 0 where
  pool : stands-in c.maps.pools c.progress.address ≡ true → Skips c (c.progress.address + 4)
  table : (t : List ℕ) → inline_table_at c.progress.address c.maps.inline_tables ≡ some t → Skips c (table_end_at t)

-- an insertion that fits keeps P
abbrev pub Enters : (Context → Type 0) → ℕ → (Counts → ℕ) → (Maps → List (List ℕ)) → (List (List ℕ) → Maps → Maps) → Type 0
Enters P stride places of to =
    (row : List ℕ) (c : Context) → length row ≡ stride → fits stride (places c.given.places) (inserted key_of row (of c.maps)) ≡ true → P c
    → P (with_maps (to (inserted key_of row (of c.maps)) c.maps) c)

-- a register with a pool of the code, which is entered
abbrev pub loaded_from : Ins → ℕ → ℕ → Context → Context
loaded_from i a value c =
    with_progress (pool_to a c.progress)
    (with_maps (pools_to (inserted key_of (a ∷ value ∷ other ∷ []) c.maps.pools) c.maps)
    (with_registers (holding c.registers i.rd value a) c))

-- of the machines that a block leaves: the one of illegal code stands as it stood, or has its next state
abbrev pub Coded : Ins → Context → Machines → Type 0
Coded i c m = (m.illegal_code ≡ c.machines.illegal_code) ⊎ (m.illegal_code ≡ code_machine c.machines.illegal_code i)

-- the assignments of a step, and a property that each of them keeps; and what it comes to where the step ends
pub record Kept (i : Ins) (size : ℕ) (P : Context → Type 0) (E : ℕ → Context → Type 0) : Type 0 where
  pub machines : (m : Machines) (c : Context) → Coded i c m → P c → P (with_machines m c)
  pub raises : (d : ℕ) (c : Context) → P c → P (with_progress (raising d c.progress) c)
  pub tables : (d : ℕ) (c : Context) → P c → P (with_progress (table_to d c.progress) c)
  pub defines : (d : ℕ) (c : Context) → P c → P (with_progress (defining d c.progress) c)
  pub forgets : (c : Context) → P c → P (with_registers (forgotten c.registers i.defs) c)
  pub marks : (a : ℕ) (c : Context) → P c → P (with_maps (pools_to (marked a c.maps.pools) c.maps) c)
  pub labels : Enters P label_row (λ n. n.labels) (λ m. m.labels) labels_to
  pub jump_tables : Enters P table_row (λ n. n.jump_tables) (λ m. m.jump_tables) jump_tables_to
  pub inline_tables : Enters P table_row (λ n. n.inline_tables) (λ m. m.inline_tables) inline_tables_to
  pub calls : Enters P call_row (λ n. n.calls) (λ m. m.calls) calls_to
  pub loads : (a value : ℕ) (c : Context) → word_from c.given.code c.given.options.base a ≡ Some value
      → fits pool_row c.given.places.pools (inserted key_of (a ∷ value ∷ other ∷ []) c.maps.pools) ≡ true
      → P c → P (loaded_from i a value c)
  pub ends : (c : Context) → P c → E (c.progress.address + size) c
  pub entry : is_entry_instruction i ≡ true → (c : Context) → P c → E c.progress.address c

-- the jump past pools, which the branch alone makes, keeps P: to a label, or to the first address that is no pool
abbrev pub Jumps : ℕ → (Context → Type 0) → Type 0
Jumps size P = (n : ℕ) (c : Context) → (c.next ≤ n) ⊎ (c.progress.address + size ≤ n) → P c → P (going_to n c)

-- ---- a label past pools is not below the parser's address

-- the first row at or above x
pub rank-above : (x : ℕ) (m : List (List ℕ)) → rank key_of x m < length m → x ≤ key_of (get_or m (rank key_of x m) [])
unfolding rank
rank-above x [] h = absurd (omega arith)
rank-above x (r ∷ rs) h = step (ltb (key_of r) x) refl (rank-above x rs) h
  where
    step : (b : Bool) → ltb (key_of r) x ≡ b → (rank key_of x rs < length rs → x ≤ key_of (get_or rs (rank key_of x rs) []))
        → pick b (suc (rank key_of x rs)) 0 < suc (length rs)
        → x ≤ key_of (get_or (r ∷ rs) (pick b (suc (rank key_of x rs)) 0) [])
    step true e next l = next (le_of_suc-le-suc l)
    step false e next l = omega (arith, ltb-false)

pub label-above : (x : ℕ) (m : List (List ℕ)) (k : ℕ) → at_or_above x m ≡ Some k → x ≤ key_of (get_or m k [])
unfolding at_or_above
label-above x m k e = step (ltb (rank key_of x m) (length m)) refl e
  where
    step : (b : Bool) → ltb (rank key_of x m) (length m) ≡ b → pick b (Some (rank key_of x m)) None ≡ Some k → x ≤ key_of (get_or m k [])
    step true f e = let same : rank key_of x m ≡ k = cc in rw same at (rank-above x m (ltb-true _ _ f))
    step false f e = let z : ◌≡◌ {A = ℕ} 0 1 = cc in absurd (omega arith)

-- ---- what each block keeps

-- a step's blocks before the branch
unfoldable pub before_branch : Ins → ℕ → ℕ → Context → Step
before_branch i word size c =
    to_return i c
    ▸ (λ c.
    final_return i word size (in_conditional_block c) (is_return c.progress.address i c.progress.previous) c
    ▸ entry_after_branch i (in_conditional_block c))

module _ (i : Ins) (size : ℕ) (P G : Context → Type 0) (E : ℕ → Context → Type 0) (k : Kept i size P E) where
  abbrev Meet : Step → Type 0
  Meet s = Meets P G E s

  skips-kept : (c : Context) → P c → ((n : ℕ) → Skips c n → G (going_to n c)) → Meets P G E (skip_pool c ▸ skip_inline_table)
  unfolding skip_pool skip_inline_table
  skips-kept c p g =
      step (stands-in c.maps.pools c.progress.address) refl (inline_table_at c.progress.address c.maps.inline_tables) refl
    where
      step : (b : Bool) → stands-in c.maps.pools c.progress.address ≡ b → (t : Option (List ℕ))
          → inline_table_at c.progress.address c.maps.inline_tables ≡ t
          → Meets P G E (pick b (goes (going_to (c.progress.address + 4) c)) (on c) ▸ skip_inline_table)
      step true e t f = has-gone (g _ (pool e))
      step false e none f = rw f (is-on p)
      step false e (some t) f = rw f (chosen (ltb (table_end_at t) 0x1_0000_0000) (λ _. has-gone (g _ (table t f))) (λ _. is-refused))

  raised-kept : (t : Result (Optional ℕ) Refusal) (c : Context) → P c → Meet (raised_to_table t c)
  raised-kept (Ok (Some end)) c p = is-on (k.tables end _ (k.raises end c p))
  raised-kept (Ok None) c p = is-on p
  raised-kept (Err r) c p = is-refused

  jump_kept : (a : Answer) (c : Context) → P c → Meet (after_jump i a c)
  jump_kept (Ok (s, None)) c p = raised-kept (table_end s) _ (k.machines _ c (inl refl) p)
  jump_kept (Ok (s, Some t)) c p =
      chained
      (chosen _ (λ e. is-on (k.jump_tables (t.address ∷ t.size ∷ []) _ refl e (k.machines _ c (inl refl) p))) (λ _. is-refused))
      (raised-kept (table_end s))
  jump_kept (Err r) c p = is-refused

  jump_table-kept : (c : Context) → P c → Meet (jump_table i c)
  unfolding jump_table
  jump_table-kept c p = jump_kept (jump_machine c.machines.jump_table c.progress.address i) c p

  code-kept : (s : IllegalCodeState) (c : Context) → P c → Meet (after_code s c)
  code-kept Start c p = is-on p
  code-kept (ShiftedRegisterValue r) c p = is-on p
  code-kept (Illegal reason) c p = is-refused

  illegal_code-kept : (c : Context) → P c → Meet (illegal_code i c)
  unfolding illegal_code
  illegal_code-kept c p = code-kept (code_machine c.machines.illegal_code i) _ (k.machines _ c (inr refl) p)

  branch_outside-kept : (c : Context) → P c → Meet (branch_outside i c)
  unfolding branch_outside
  branch_outside-kept c p = chosen (both (is_branch i) (not (is_in 0x01FF_8000 0x0300_0000 i.target))) (λ _. is-refused) (λ _. is-on p)

  mark_pool-kept : (c : Context) → P c → Meet (mark_pool i c)
  unfolding mark_pool
  mark_pool-kept c p =
      chosen (both (is_bx i) (not (eqb (source_of c.registers i.rm) 0)))
      (λ _. is-on (k.marks (source_of c.registers i.rm) c p))
      (λ _. is-on p)

  forget_written-kept : (c : Context) → P c → Meet (forget_written i c)
  unfolding forget_written
  forget_written-kept c p = is-on (k.forgets c p)

  call_kept : (word mode : ℕ) (c : Context) → P c → Meet (call_to i word mode c)
  call_kept word mode c p =
      chosen _ (λ e. is-on (k.calls (c.progress.address ∷ word ∷ i.target ∷ mode ∷ []) c refl e p)) (λ _. is-refused)

  final_return-kept : (word : ℕ) (block returns : Bool) (c : Context) → P c → Meet (final_return i word size block returns c)
  unfolding final_return
  final_return-kept word block returns c p =
      chosen (both (not block) returns)
      (λ _. chosen (is_long_branch_destination (c.progress.address + size) c)
      (λ _. is-on (k.raises (c.progress.address + size) c p))
      (λ _. chained {P = λ d. P d × (d.progress.address ≡ c.progress.address)}
      (chosen (is_tail_call i size c)
      (λ _. chosen _ (λ e. is-on (k.calls (c.progress.address ∷ word ∷ i.target ∷ arm ∷ []) c refl e p, refl)) (λ _. is-refused))
      (λ _. is-on (p, refl)))
      (λ d q. has_ended (rw (ap (λ (a : ℕ). a + size) q.1) at (k.ends d q.0)))))
      (λ _. is-on p)

  entry_kept : (block : Bool) (c : Context) → P c → Meet (entry_after_branch i block c)
  unfolding entry_after_branch
  entry_kept block c p =
      chosen
      (both (ltb c.progress.start c.progress.address)
      (both (is_entry_instruction i)
      (both c.progress.previous.is_branch (either block c.progress.previous.is_conditional))))
      (λ e. has_ended (k.entry (both_first (is_entry_instruction i) _ (both-second (ltb c.progress.start c.progress.address) _ e)) c p))
      (λ _. is-on p)

  load_kept : (a : ℕ) (w : Optional ℕ) (c : Context) → word_from c.given.code c.given.options.base a ≡ w → P c → Meet (loaded i a w c)
  load_kept a (Some value) c e p =
      chained {P = λ d. P (with_progress (pool_to a d.progress) d)}
      (chosen _ (λ f. is-on (k.loads a value c e f p)) (λ _. is-refused))
      (λ d q. is-on q)
  load_kept a None c e p = is-refused

  pool_load-kept : (c : Context) → P c → Meet (pool_load i c)
  unfolding pool_load
  pool_load-kept c p =
      let a = pool_address c.progress.address i in
      chosen (is_pool_load i) (λ _. load_kept a (word_from c.given.code c.given.options.base a) c refl p) (λ _. is-on p)

  table_kept : (t : Optional InlineTable) (c : Context) → P c → Meet (tabled t c)
  table_kept (Some t) c p = chosen _ (λ e. is-on (k.inline_tables (t.address ∷ t.size ∷ []) c refl e p)) (λ _. is-refused)
  table_kept None c p = is-on p

  inline-kept : (a : Result InlineTableState Refusal) (c : Context) → P c → Meet (after_inline i a c)
  inline-kept (Ok s) c p = table_kept (table_of s) _ (k.machines _ c (inl refl) p)
  inline-kept (Err r) c p = is-refused

  inline_table-kept : (c : Context) → P c → Meet (inline_table i c)
  unfolding inline_table
  inline_table-kept c p = inline-kept (inline_machine c.machines.inline_table false c.progress.address i) c p

  called-kept : (word : ℕ) (f : Optional Mode) (c : Context) → P c → Meet (called_as i word f c)
  called-kept word None c p = is-on p
  called-kept word (Some Arm) c p = call_kept word arm c p
  called-kept word (Some Thumb) c p = call_kept word thumb c p
  called-kept word (Some (Other mode)) c p = call_kept word mode c p

  function_call-kept : (word : ℕ) (c : Context) → P c → Meet (function_call i word c)
  unfolding function_call
  function_call-kept word c p = called-kept word (is_function_call i) c p

  check_defined-kept : (returns : Bool) (c : Context) → P c → Meet (check_defined i returns c)
  unfolding check_defined
  check_defined-kept returns c p =
      chosen (ltb (undefined_register c.given.options.check c.progress.defined_registers i) 16)
      (λ _. is-refused) (λ _. is-on (k.defines _ c p))

  to_return-kept : (c : Context) → P c → ((n : ℕ) → Skips c n → G (going_to n c)) → Meet (to_return i c)
  unfolding to_return
  to_return-kept c p g =
      chained
      (chained
      (chained (chained (chained (skips-kept c p g) jump_table-kept) illegal_code-kept) branch_outside-kept)
      mark_pool-kept)
      forget_written-kept

  -- the blocks before the branch
  pub before-kept : (word : ℕ) (c : Context) → P c → ((n : ℕ) → Skips c n → G (going_to n c)) → Meet (before_branch i word size c)
  unfolding before_branch
  before-kept word c p g =
      chained (to_return-kept c p g)
      (λ c p. chained (final_return-kept word (in_conditional_block c) (is_return c.progress.address i c.progress.previous) c p)
      (entry_kept (in_conditional_block c)))

module _ (i : Ins) (size : ℕ) (P G : Context → Type 0) (E : ℕ → Context → Type 0) (k : Kept i size P E) (jumps : Jumps size P) where
  abbrev Comes : Step → Type 0
  Comes s = Meets P G E s

  gap-kept : (g : Optional ℕ) (c : Context) → gap_from (stands-in c.maps.pools) (c.progress.address + size) ≡ g → P c → Comes (past_gap g c)
  gap-kept (Some n) c e p = is-on (jumps n c (inr (omega (arith, (gap_at _ _ n e).is))) p)
  gap-kept None c e p = is-refused

  label_kept : (f : Optional ℕ) (c : Context) → at_or_above c.next c.maps.labels ≡ f → P c → Comes (to_label i size f c)
  label_kept (Some n) c e p = is-on (jumps _ c (inl (label-above c.next c.maps.labels n e)) p)
  label_kept None c e p =
      chosen (ltb c.progress.address i.target)
      (λ _. has_ended (k.ends c p))
      (λ _. gap-kept (gap_from (stands-in c.maps.pools) (c.progress.address + size)) c refl p)

  pub past_pools-kept : (c : Context) → P c → Comes (past_pools i size c)
  unfolding past_pools
  past_pools-kept c p =
      chosen (stands-in c.maps.pools (c.progress.address + size))
      (λ _. label_kept (at_or_above c.next c.maps.labels) c refl p)
      (λ _. is-on p)

  raised-label : (block : Bool) (c : Context) → P c → P (label_raised i block c)
  unfolding label_raised
  raised-label block c p = step (raises_label i block c)
    where
      step : (b : Bool) → P (pick b (with_progress (raising i.target c.progress) c) c)
      step true = k.raises i.target c p
      step false = p

  handle_label-kept : (block : Bool) (c : Context) → P c → Comes (handle_label i size block c)
  unfolding handle_label
  handle_label-kept block c p =
      chained
      (chosen _ (λ e. is-on (k.labels (i.target ∷ []) c refl e p)) (λ _. is-refused))
      (λ c p. past_pools-kept _ (raised-label block c p))

  branches-kept : (word : ℕ) (block : Bool) (c : Context) → P c → Comes (branches i word size block c)
  unfolding branches
  branches-kept word block c p =
      chosen (is_in c.given.options.module_start c.given.options.module_end i.target)
      (λ _. chosen (is_other_function i c)
      (λ _. chosen (both (not (is_conditional i.cond)) (not block)) (λ _. has_ended (k.ends c p)) (λ _. call_kept i size P G E k word arm c p))
      (λ _. handle_label-kept block c p))
      (λ _. call_kept i size P G E k word arm c p)

  branch_kept : (word : ℕ) (block : Bool) (c : Context) → P c → Comes (branch i word size block c)
  unfolding branch branched
  branch_kept word block c p = let q = k.machines _ c (inl refl) p in chosen (is_branch i) (λ _. branches-kept word block _ q) (λ _. is-on q)

  -- ---- and so the step

  from_return-kept : (word : ℕ) (block returns : Bool) (c : Context) → P c → Comes (from_return i word size block returns c)
  unfolding from_return
  from_return-kept word block returns c p =
      chained
      (chained
      (chained
      (chained
      (chained
      (chained (final_return-kept i size P G E k word block returns c p) (entry_kept i size P G E k block))
      (branch_kept word block))
      (pool_load-kept i size P G E k))
      (inline_table-kept i size P G E k))
      (function_call-kept i size P G E k word))
      (check_defined-kept i size P G E k returns)

  handle_ins_inner-kept : (word : ℕ) (c : Context) → P c → ((n : ℕ) → Skips c n → G (going_to n c))
      → Comes (handle_ins_inner i word size c)
  unfolding handle_ins_inner
  handle_ins_inner-kept word c p g = chained (to_return-kept i size P G E k c p g) (λ c p. from_return-kept word _ _ c p)

-- ---- handle_ins

-- what the next turn gets has moved on
abbrev pub moved : Ins → Context → Context
moved i c = with_progress (moving c.next (as_previous i) c.progress) c

-- and an instruction, unlike skipped data, is counted
abbrev pub counted : ℕ → Context → Context
counted bytes c = with_progress (counting bytes c.progress) c

module _ (i : Ins) (bytes : ℕ) (P G : Context → Type 0) (E : ℕ → Context → Type 0) (goes : (c : Context) → P c → G (moved i (counted bytes c))) where
  pub passed-kept : {s : Step} → Meets P (λ c. G (moved i c)) E s → Meets (λ _. ⊥) G E (passed i bytes s)
  passed-kept (is-on {c} p) = has-gone (goes c p)
  passed-kept (has-gone g) = has-gone g
  passed-kept (has_ended e) = has_ended e
  passed-kept is-refused = is-refused

-- it never goes on to a next block
pub never_on : (i : Ins) (word size : ℕ) (c d : Context) → handle_ins i word size c ≡ on d → ⊥
unfolding handle_ins
never_on i word size c d e = step (handle_ins_inner i word size (going_to (c.progress.address + size) c)) e
  where
    step : (s : Step) → passed i (c.progress.instruction_bytes + size) s ≡ on d → ⊥
    step (on b) e = let z : ◌≡◌ {A = ℕ} 0 1 = cc in omega arith
    step (goes b) e = let z : ◌≡◌ {A = ℕ} 0 1 = cc in omega arith
    step (ends a b) e = let z : ◌≡◌ {A = ℕ} 0 1 = cc in omega arith
    step (refuses n r) e = let z : ◌≡◌ {A = ℕ} 0 1 = cc in omega arith

module _ (i : Ins) (size : ℕ) (P G : Context → Type 0) (E : ℕ → Context → Type 0) (k : Kept i size P E) (jumps : Jumps size P) where
  pub handle_ins-kept : (word : ℕ) (c : Context) → P (going_to (c.progress.address + size) c)
      → ((d : Context) → P d → G (moved i (counted (c.progress.instruction_bytes + size) d)))
      → ((n : ℕ) → Skips c n → G (moved i (going_to n c)))
      → Meets (λ _. ⊥) G E (handle_ins i word size c)
  unfolding handle_ins
  handle_ins-kept word c p h g =
      passed-kept i (c.progress.instruction_bytes + size) P G E h
      (handle_ins_inner-kept i size P (λ d. G (moved i d)) E k jumps word (going_to (c.progress.address + size) c) p skips)
    where
      skips : (n : ℕ) → Skips (going_to (c.progress.address + size) c) n → G (moved i (going_to n c))
      skips n (pool e) = g _ (pool e)
      skips n (table t e) = g _ (table t e)

module _ {P G : Context → Type 0} {E : ℕ → Context → Type 0} where
  -- what a step has come to
  pub stayed : {s : Step} (c : Context) → Meets P G E s → s ≡ on c → P c
  stayed c (is-on {c = d} p) e = let same : d ≡ c = cc in rw same at p
  stayed c (has-gone g) e = absurd (let z : ◌≡◌ {A = ℕ} 0 1 = cc in omega arith)
  stayed c (has_ended h) e = absurd (let z : ◌≡◌ {A = ℕ} 0 1 = cc in omega arith)
  stayed c is-refused e = absurd (let z : ◌≡◌ {A = ℕ} 0 1 = cc in omega arith)

  pub gone : {s : Step} (c : Context) → Meets P G E s → s ≡ goes c → G c
  gone c (is-on p) e = absurd (let z : ◌≡◌ {A = ℕ} 0 1 = cc in omega arith)
  gone c (has-gone {c = d} g) e = let same : d ≡ c = cc in rw same at g
  gone c (has_ended h) e = absurd (let z : ◌≡◌ {A = ℕ} 0 1 = cc in omega arith)
  gone c is-refused e = absurd (let z : ◌≡◌ {A = ℕ} 0 1 = cc in omega arith)

  pub ended : {s : Step} (a : ℕ) (c : Context) → Meets P G E s → s ≡ ends a c → E a c
  ended a c (is-on p) e = absurd (let z : ◌≡◌ {A = ℕ} 0 1 = cc in omega arith)
  ended a c (has-gone g) e = absurd (let z : ◌≡◌ {A = ℕ} 0 1 = cc in omega arith)
  ended a c (has_ended {a = b} {c = d} h) e = let at : b ≡ a = cc in let same : d ≡ c = cc in rw (at, same) at h
  ended a c is-refused e = absurd (let z : ◌≡◌ {A = ℕ} 0 1 = cc in omega arith)
