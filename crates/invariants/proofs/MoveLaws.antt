-- Where a step goes on, and where it ends: a step that goes on has moved on; one that ends has come to its own instruction's end, or to its
-- beginning where that is the entry of another function.
-- Assumes nothing.
use Rattle.base.proofs.Prelude.{refl, ◌≡◌, ap, false, true, Bool, List, [], ◌∷◌, inr, inl, ◌⊎◌, some, none, ◌≤◌, ℕ, ◌+◌, ◌<◌, suc, suc-le-suc, arith}
use Rattle.base.proofs.Prelude.{eqb, ltb, leb, length, eq-eqb, lt-ltb, eqb-true, ltb-true}
use Rattle.arm.specs.declared.Ins.{Ins}
use Rattle.arm.specs.Ins.{decode_of}
use Rattle.std.specs.Prelude.{Option, Some, None}
use Rattle.base.specs.Choice.{pick}
use Rattle.context.specs.Blocks.{inline_table_at, is_within, table_end_at, past_gap, to_label, past_pools, raises_label, label_raised, handle_label, handle_ins}
use Rattle.context.specs.Turn.{arm_size}
use Rattle.context.specs.Context.{Context, Step, on, goes, ends, with_progress, raising, enter_label, label_row}
use Rattle.predicates.specs.Predicates.{is_branch, is_entry_instruction}
use Rattle.rows.specs.Rows.{rank, stands, inserted}
use Rattle.rows.specs.Map.{key_of, stands-in, at_or_above, fits}
use Rattle.rows.specs.Run.{gap_from}
use Rattle.rows.proofs.RowLaws.{stands-inserted}
use Rattle.base.proofs.ChoiceLaws.{both-second}
use Rattle.invariants.proofs.TargetLaws.{branch-past}
use Rattle.invariants.proofs.BlockLaws.{Meets, is-on, is-refused, Kept, Jumps, Skips, pool, table, handle_ins-kept, past_pools-kept, chained}
use Rattle.invariants.proofs.BlockLaws.{chosen}
use Rattle.invariants.proofs.BlockLaws.{stayed, gone, ended, before_branch, before-kept}

-- a table holds what lies before its end
pub table-past : (a : ℕ) (ts : List (List ℕ)) (t : List ℕ) → inline_table_at a ts ≡ some t → a < table_end_at t
unfolding inline_table_at
table-past a [] t e = let z : ◌≡◌ {A = ℕ} 0 1 = cc in absurd (omega arith)
table-past a (u ∷ ts) t e = step (is_within a u) refl (table-past a ts t) e
  where
    step : (b : Bool) → is_within a u ≡ b → (inline_table_at a ts ≡ some t → a < table_end_at t) → pick b (some u) (inline_table_at a ts) ≡ some t → a < table_end_at t
    step true f next e = let same : u ≡ t = cc in rw same at (ltb-true a (table_end_at u) (both-second (leb (key_of u) a) _ f))
    step false f next e = next e

-- a skip goes past the address
pub skip-past : (c : Context) (n : ℕ) → Skips c n → c.progress.address < n
skip-past c n (pool e) = omega arith
skip-past c n (table t e) = table-past c.progress.address c.maps.inline_tables t e

module _ (i : Ins) (size a : ℕ) where
  -- while the step stands at a, the parser stands at or past the next instruction
  abbrev Ahead : Context → Type 0
  Ahead c = (c.progress.address ≡ a) × (a + size ≤ c.next)

  -- its own end, or the beginning of an entry
  abbrev pub EndsAt : ℕ → Type 0
  EndsAt e = (e ≡ a + size) ⊎ ((e ≡ a) × (is_entry_instruction i ≡ true))

  ahead-kept : Kept i size Ahead (λ e c. EndsAt e)
  ahead-kept = record {
    machines = λ m c n p. p;
    raises = λ d c p. p;
    tables = λ d c p. p;
    defines = λ d c p. p;
    forgets = λ c p. p;
    marks = λ x c p. p;
    labels = λ r c w f p. p;
    jump_tables = λ r c w f p. p;
    inline_tables = λ r c w f p. p;
    calls = λ r c w f p. p;
    loads = λ x v c w f p. p;
    ends = λ c p. inl (ap (λ (x : ℕ). x + size) p.0);
    entry = λ e c p. inr (p.0, e);
  }

  ahead-jumps : Jumps size Ahead
  ahead-jumps n c (inl h) p = (p.0, omega (arith, p.1))
  ahead-jumps n c (inr h) p = (p.0, omega (arith, p.0))

module _ (i : Ins) (word size : ℕ) (c : Context) where
  -- unless it skips, a step goes on at or past the next instruction
  pub goes-next : (c' : Context) → stands-in c.maps.pools c.progress.address ≡ false
      → inline_table_at c.progress.address c.maps.inline_tables ≡ none
      → handle_ins i word size c ≡ goes c'
      → c.progress.address + size ≤ c'.progress.address
  goes-next c' no-pool no_table e =
      let a = c.progress.address in
      gone c'
      (handle_ins-kept i size (Ahead i size a) (λ d. a + size ≤ d.progress.address) (λ e d. EndsAt i size a e)
      (ahead-kept i size a) (ahead-jumps i size a) word c (refl, omega arith) (λ d p. p.1) none-skip)
      e
    where
      none-skip : (n : ℕ) → Skips c n → c.progress.address + size ≤ n
      none-skip n (pool e) = absurd (let z : ◌≡◌ {A = ℕ} 0 1 = cc in omega arith)
      none-skip n (table t e) = absurd (let z : ◌≡◌ {A = ℕ} 0 1 = cc in omega arith)

  comes : 0 < size
      → Meets (λ _. ⊥) (λ d. c.progress.address < d.progress.address) (λ e d. EndsAt i size c.progress.address e) (handle_ins i word size c)
  comes s =
      let a = c.progress.address in
      handle_ins-kept i size (Ahead i size a) (λ d. a < d.progress.address) (λ e d. EndsAt i size a e)
      (ahead-kept i size a) (ahead-jumps i size a) word c (refl, omega arith) (λ d p. omega (arith, p.1)) (λ n h. skip-past c n h)

  pub goes-past : (c' : Context) → 0 < size → handle_ins i word size c ≡ goes c' → c.progress.address < c'.progress.address
  goes-past c' s e = gone c' (comes s) e

  pub ends_at : (end : ℕ) (c' : Context) → 0 < size → handle_ins i word size c ≡ ends end c' → EndsAt i size c.progress.address end
  ends_at end c' s e = ended end c' (comes s) e

-- ---- the parser's address at a branch is the next instruction's

abbrev pub AtNext : ℕ → Context → Type 0
AtNext size c = c.next ≡ c.progress.address + size

next-kept : (i : Ins) (size : ℕ) → Kept i size (AtNext size) (λ e d. Unit {0})
next-kept i size = record {
  machines = λ m c n p. p;
  raises = λ d c p. p;
  tables = λ d c p. p;
  defines = λ d c p. p;
  forgets = λ c p. p;
  marks = λ x c p. p;
  labels = λ r c w f p. p;
  jump_tables = λ r c w f p. p;
  inline_tables = λ r c w f p. p;
  calls = λ r c w f p. p;
  loads = λ x v c w f p. p;
  ends = λ c p. tt;
  entry = λ e c p. tt;
}

pub at-branch : (i : Ins) (word size : ℕ) (c d : Context) → AtNext size c → before_branch i word size c ≡ on d → AtNext size d
at-branch i word size c d p e =
    stayed d (before-kept i size (AtNext size) (λ d. Unit {0}) (λ e d. Unit {0}) (next-kept i size) word c p (λ n h. tt)) e

-- handle_label's assert: past pools the walk goes on at or above the parser's address
pub never_back : (i : Ins) (size : ℕ) (c c' : Context) → AtNext size c → past_pools i size c ≡ on c'
    → c.progress.address + size ≤ c'.next
never_back i size c c' at e =
    let a = c.progress.address in
    (stayed c' (past_pools-kept i size (Ahead i size a) (λ d. Unit {0}) (λ e d. EndsAt i size a e) (ahead-kept i size a) (ahead-jumps i size a) c (refl, omega arith)) e).1

-- ---- handle_label's arm "no further label, forward branch"

-- a row at or above y has its place among those that are looked for
rank-within : (x y : ℕ) (m : List (List ℕ)) → stands-in m x ≡ true → y ≤ x → rank key_of y m < length m
unfolding rank stands
rank-within x y [] e l = absurd (let z : ◌≡◌ {A = ℕ} 0 1 = cc in omega arith)
rank-within x y (r ∷ rs) e l = step (ltb (key_of r) x) (ltb (key_of r) y) refl refl (λ h. rank-within x y rs h l) e
  where
    step : (s t : Bool) → ltb (key_of r) x ≡ s → ltb (key_of r) y ≡ t → (stands-in rs x ≡ true → rank key_of y rs < length rs)
        → pick s (stands-in rs x) (eqb (key_of r) x) ≡ true → pick t (suc (rank key_of y rs)) 0 < suc (length rs)
    step s false f g next h = omega arith
    step true true f g next h = suc-le-suc (next h)
    step false true f g next h = let same : key_of r ≡ x = eqb-true _ _ h in omega (arith, ltb-true)

label-found : (x y : ℕ) (m : List (List ℕ)) → stands-in m x ≡ true → y ≤ x → at_or_above y m ≡ None → ⊥
unfolding at_or_above
label-found x y m e l h = let f = lt-ltb _ _ (rank-within x y m e l) in let z : ◌≡◌ {A = ℕ} 0 1 = cc (rw f at h) in omega arith

module _ (word : ℕ) (c : Context) (at : AtNext arm_size c)
    (is-branch : is_branch (decode_of word c.progress.address) ≡ true) where
  abbrev i : Ins
  i = decode_of word c.progress.address

  -- the branch's own target is a label
  record Labelled (d : Context) : Type 0 where
    target : stands-in d.maps.labels i.target ≡ true
    address : d.progress.address ≡ c.progress.address
    next : d.next ≡ c.progress.address + arm_size

  abbrev Unended : Step → Type 0
  Unended s = Meets (λ d. Unit {0}) (λ d. Unit {0}) (λ e d. ⊥) s

  gap-goes : (g : Option ℕ) (d : Context) → Unended (past_gap g d)
  gap-goes (Some n) d = is-on tt
  gap-goes None d = is-refused

  -- and one ahead is found past the pools
  ahead-found : (d : Context) → Labelled d → d.progress.address < i.target → at_or_above d.next d.maps.labels ≡ None → ⊥
  ahead-found d p ahead e =
      let here = p.address in
      let past = branch-past word c.progress.address is-branch (omega arith) in
      label-found i.target d.next d.maps.labels p.target (omega (arith, p.next)) e

  label-goes : (f : Option ℕ) (d : Context) → at_or_above d.next d.maps.labels ≡ f → Labelled d → Unended (to_label i arm_size f d)
  label-goes (Some k) d e p = is-on tt
  label-goes None d e p =
      chosen (ltb d.progress.address i.target)
      (λ h. absurd (ahead-found d p (ltb-true d.progress.address i.target h) e))
      (λ h. gap-goes (gap_from (stands-in d.maps.pools) (d.progress.address + arm_size)) d)

  pools-go : (d : Context) → Labelled d → Unended (past_pools i arm_size d)
  unfolding past_pools
  pools-go d p =
      chosen (stands-in d.maps.pools (d.progress.address + arm_size))
      (λ _. label-goes (at_or_above d.next d.maps.labels) d refl p)
      (λ _. is-on tt)

  raised : (block : Bool) (d : Context) → Labelled d → Labelled (label_raised i block d)
  unfolding label_raised
  raised block d p = step (raises_label i block d)
    where
      step : (b : Bool) → Labelled (pick b (with_progress (raising i.target d.progress) d) d)
      step true = record { target = p.target; address = p.address; next = p.next }
      step false = p

  entered : Meets Labelled (λ d. Unit {0}) (λ e d. ⊥) (enter_label (i.target ∷ []) c)
  entered =
      let here : stands-in (inserted key_of (i.target ∷ []) c.maps.labels) i.target ≡ true =
      rw (stands-inserted key_of i.target (i.target ∷ []) c.maps.labels, eq-eqb i.target i.target refl) in
      chosen (fits label_row c.given.places.labels (inserted key_of (i.target ∷ []) c.maps.labels))
      (λ f. is-on (record { target = here; address = refl; next = at }))
      (λ _. is-refused)

  unended : (block : Bool) → Unended (handle_label i arm_size block c)
  unfolding handle_label
  unended block = chained entered (λ d p. pools-go _ (raised block d p))

  -- so it is never reached in ARM mode: a branch ahead goes at least to the next instruction, and is a label past the pools itself
  pub never_ends : (block : Bool) (end : ℕ) (c' : Context) → handle_label (decode_of word c.progress.address) arm_size block c ≡ ends end c' → ⊥
  never_ends block end c' e = ended end c' (unended block) e
