-- What the blocks about tables come to, from what their calls hand back.
-- Assumes nothing.
use Rattle.base.proofs.Prelude.{◌∙◌, refl, ◌≡◌, false, true, Bool, List, [], ◌∷◌, ℕ, arith, ltb, length}
use Rattle.std.specs.Prelude.{Option as Optional, Some, None, Result, Ok, Err, MatchOption}
use Rattle.arm.specs.declared.Ins.{Ins}
use Rattle.analysis.specs.declared.inline_table.InlineTable.{InlineTable}
use Rattle.analysis.specs.declared.inline_table.InlineTableState.{InlineTableState}
use Rattle.analysis.specs.declared.jump_table.JumpTable.{JumpTable}
use Rattle.analysis.specs.declared.jump_table.JumpTableStateArm.{JumpTableStateArm}
use Rattle.analysis.specs.InlineTable.{inline_table as inline_machine, table_of}
use Rattle.analysis.specs.JumpTable.{table_end, jump_table as jump_machine}
use Rattle.base.specs.Choice.{pick}
use Rattle.base.specs.declared.refusal.Refusal.{Refusal}
use Rattle.base.specs.declared.refusal.Refusal.TheVariants.{Beyond32Bits}
use Rattle.std.specs.Bool.{then_some}
use mathlib.Core.Bool.{cond}
use Rattle.std.specs.List.{find}
use Rattle.context.specs.declared.State.{State}
use Rattle.context.specs.declared.Stepped.{Stepped}
use Rattle.context.specs.declared.Then.{Then}
use Rattle.context.specs.declared.Then.TheVariants.{Refuses}
use Rattle.context.specs.Context.{Context, Step, on, goes, refuses, going_to, jump_table_to, inline_table_to}
use Rattle.context.specs.Blocks.{is_within, inline_table_at, raised_to_table, jump_table, inline_table}
use Rattle.context.specs.State.{World, Holds, Does, same, read, context_of, counted, machined, count_jump_tables, count_inline_tables, jump_tables_in, inline_tables_in}
use Rattle.context.proofs.Laws.{full-refusal, entered-in, entered-full, jump-tables-held, inline-tables-held}
use Rattle.tables.specs.Tables.{Finds, table_data, skipped, EnteringFound, unless_refused}

-- ---- the search among the inline tables

finds-by : (a : ℕ) (m n : List (List ℕ)) (r : Optional (List ℕ)) → inline_table_at a n ≡ inline_table_at a m → Finds a m r → Finds a n r
finds-by a m n None e f = e ∙ f
finds-by a m n (Some table) e f = e ∙ f

pub finds : (a : ℕ) (m : List (List ℕ)) → Finds a m (find (is_within a) m)
unfolding inline_table_at
finds a [] = refl
finds a (t ∷ ts) = step (is_within a t) refl (finds a ts)
  where
    step : (w : Bool) → is_within a t ≡ w → Finds a ts (find (is_within a) ts) → Finds a (t ∷ ts) (cond w (Some t) (find (is_within a) ts))
    step true q rest = rw q
    step false q rest = finds-by a ts (t ∷ ts) (find (is_within a) ts) (rw q) rest

pub skipped-pool : (b : Bool) (end : ℕ) (c : Context) → skipped (Ok (then_some b end)) c ≡ pick b (goes (going_to end c)) (on c)
skipped-pool true end c = refl
skipped-pool false end c = refl

pub skipped-table : (end : ℕ) (c : Context) → skipped (table_data end) c ≡ pick (ltb end 0x1_0000_0000) (goes (going_to end c)) (refuses Beyond32Bits 0)
skipped-table end c = step (ltb end 0x1_0000_0000)
  where
    step : (b : Bool) → skipped (pick b (Ok (Some end)) (Err Beyond32Bits)) c ≡ pick b (goes (going_to end c)) (refuses Beyond32Bits 0)
    step true = refl
    step false = refl

-- ---- a step that may be refused

pub refused-then : (o : Optional Refusal) (t u : Then) → MatchOption o (u ≡ t) (λ r. u ≡ Refuses r 0) → (c : Context) → read u c ≡ unless_refused o (read t c)
refused-then None t u e c = rw e
refused-then (Some r) t u e c = rw e

-- ---- what a block finds

-- the state with a machine's next state and its tables' count
abbrev pub with_jump_table : JumpTableStateArm × ℕ → State → State
with_jump_table (machine, n) s = machined (jump_table_to machine s.machines) (counted (count_jump_tables n s.counts) s)

abbrev pub with_inline_table : InlineTableState × ℕ → State → State
with_inline_table (machine, n) s = machined (inline_table_to machine s.machines) (counted (count_inline_tables n s.counts) s)

-- a block up to what it finds: it then is the rest of it, from the state with that, or a refusal
abbrev pub Finding : {X : Type 0} → (X → State → State) → (X → Context → Step) → (World → World) → (World → World) → (Context → Step) → State → Result X Refusal → Type 0
Finding to rest before after block s (Ok x) =
    (l : World) → Holds s.counts (before l) → Holds (to x s).counts (after l) × (rest x (context_of (to x s) (after l)) ≡ block (context_of s (before l)))
Finding to rest before after block s (Err refusal) =
    (l : World) → Holds s.counts (before l) → Holds s.counts (after l) × (refuses refusal 0 ≡ block (context_of s (before l)))

module _ {X : Type 0} (to : X → State → State) (rest : X → Context → Step) {before after : World → World} (block : Context → Step) (s : State) where
  pub found : (x : X) {r : Stepped} → Finding to rest before after block s (Ok x) → (to x s).progress.address ≡ s.progress.address → (to x s).call ≡ s.call
      → Does same same (rest x) (to x s) r → Does before after block s r
  found x f a k d = λ l h.
      let g = f l h in
      let e = d (after l) g.0 in
      record { stays = e.stays ∙ a; call = e.call ∙ k; holds = e.holds; says = e.says ∙ g.1 }

  pub refused : (t : State) {refusal : Refusal} {r : Stepped} → Finding to rest before after block s (Err refusal) → t.counts ≡ s.counts
      → t.progress.address ≡ s.progress.address → t.call ≡ s.call → Does same same (λ c. refuses refusal 0) t r → Does before after block s r
  refused t f n a k d = λ l h.
      let g = f l h in
      let e = d (after l) (rw n g.0) in
      record { stays = e.stays ∙ a; call = e.call ∙ k; holds = e.holds; says = e.says ∙ g.1 }

-- ---- what the machines find

abbrev pub Jumps : Ins → State → List ℕ → List ℕ → Result (JumpTableStateArm × ℕ) Refusal → Type 0
Jumps i s before after r = Finding with_jump_table (λ f. raised_to_table (table_end f.0)) (jump_tables_in before) (jump_tables_in after) (jump_table i) s r

pub jump-refused : (i : Ins) (s : State) {refusal : Refusal} {before : List ℕ} → jump_machine s.machines.jump_table s.progress.address i ≡ Err refusal
    → Jumps i s before before (Err refusal)
unfolding jump_table
jump-refused i s q = λ l h. (h, rw q)

module _ (i : Ins) (s : State) {next : JumpTableStateArm} {found : Optional JumpTable} (table : Optional (ℕ × ℕ)) {before after : List ℕ}
    (is : jump_machine s.machines.jump_table s.progress.address i ≡ Ok (next, found))
    (as_row : MatchOption found (table ≡ None) (λ t. table ≡ Some (t.address, t.size)))
    (long : length after ≡ length before) where
  pub jump-in : {count : ℕ} → EnteringFound s.counts.jump_tables before table (Ok count) after → Jumps i s before after (Ok (next, count))
  unfolding jump_table
  jump-in {count} put = step found is as_row
    where
      step : (f : Optional JumpTable) → jump_machine s.machines.jump_table s.progress.address i ≡ Ok (next, f)
          → MatchOption f (table ≡ None) (λ t. table ≡ Some (t.address, t.size)) → Jumps i s before after (Ok (next, count))
      step None q e =
          let p = rw e at put in
          let same : count ≡ s.counts.jump_tables = cc in
          rw (same, p.1) (λ l h. (h, rw q))
      step (Some t) q e =
          let p = rw e at put in
          λ l h. (jump-tables-held l h p.held long, rw (q, entered-in _ _ h.jump_table_places p))

  pub jump-full : {refusal : Refusal} → EnteringFound s.counts.jump_tables before table (Err refusal) after → Jumps i s before after (Err refusal)
  unfolding jump_table
  jump-full {refusal} put = step found is as_row
    where
      step : (f : Optional JumpTable) → jump_machine s.machines.jump_table s.progress.address i ≡ Ok (next, f)
          → MatchOption f (table ≡ None) (λ t. table ≡ Some (t.address, t.size)) → Jumps i s before after (Err refusal)
      step None q e =
          let p = rw e at put in
          let z : ◌≡◌ {A = ℕ} 0 1 = cc in
          absurd (omega (arith, z))
      step (Some t) q e =
          let p = rw e at put in
          λ l h. (jump-tables-held l h p.held long, rw (q, entered-full _ _ h.jump_table_places p, full-refusal p))

abbrev pub Inlines : Ins → State → List ℕ → List ℕ → Result (InlineTableState × ℕ) Refusal → Type 0
Inlines i s before after r = Finding with_inline_table (λ f. on) (inline_tables_in before) (inline_tables_in after) (inline_table i) s r

pub inline-refused : (i : Ins) (s : State) {refusal : Refusal} {before : List ℕ}
    → inline_machine s.machines.inline_table false s.progress.address i ≡ Err refusal → Inlines i s before before (Err refusal)
unfolding inline_table
inline-refused i s q = λ l h. (h, rw q)

module _ (i : Ins) (s : State) {next : InlineTableState} (table : Optional (ℕ × ℕ)) {before after : List ℕ}
    (is : inline_machine s.machines.inline_table false s.progress.address i ≡ Ok next)
    (as_row : MatchOption (table_of next) (table ≡ None) (λ t. table ≡ Some (t.address, t.size)))
    (long : length after ≡ length before) where
  pub inline-in : {count : ℕ} → EnteringFound s.counts.inline_tables before table (Ok count) after → Inlines i s before after (Ok (next, count))
  unfolding inline_table
  inline-in {count} put = step (table_of next) refl as_row
    where
      step : (f : Optional InlineTable) → table_of next ≡ f → MatchOption f (table ≡ None) (λ t. table ≡ Some (t.address, t.size)) → Inlines i s before after (Ok (next, count))
      step None q e =
          let p = rw e at put in
          let same : count ≡ s.counts.inline_tables = cc in
          rw (same, p.1) (λ l h. (h, rw (is, q)))
      step (Some t) q e =
          let p = rw e at put in
          λ l h. (inline-tables-held l h p.held long, rw (is, q, entered-in _ _ h.inline_table_places p))

  pub inline-full : {refusal : Refusal} → EnteringFound s.counts.inline_tables before table (Err refusal) after → Inlines i s before after (Err refusal)
  unfolding inline_table
  inline-full {refusal} put = step (table_of next) refl as_row
    where
      step : (f : Optional InlineTable) → table_of next ≡ f → MatchOption f (table ≡ None) (λ t. table ≡ Some (t.address, t.size)) → Inlines i s before after (Err refusal)
      step None q e =
          let p = rw e at put in
          let z : ◌≡◌ {A = ℕ} 0 1 = cc in
          absurd (omega (arith, z))
      step (Some t) q e =
          let p = rw e at put in
          λ l h. (inline-tables-held l h p.held long, rw (is, q, entered-full _ _ h.inline_table_places p, full-refusal p))
