-- What the code of the blocks comes to: insertions, a block that puts no call, and one block after another.
-- Assumes nothing.
use Rattle.base.proofs.Prelude.{◌∙◌, sym, refl, ◌≡◌, ap, false, true, Bool, List, [], ◌∷◌, ℕ, arith, eqb, ltb, length, eq-eqb}
use Rattle.base.proofs.Prelude.{le-ltb}
use Rattle.std.specs.Prelude.{Option, Some, None, Ok, Err}
use Rattle.base.specs.Choice.{pick}
use Rattle.base.specs.declared.refusal.Refusal.TheVariants.{ListFull}
use Rattle.rows.specs.Rows.{inserted}
use Rattle.rows.proofs.RowLaws.{inserted-length}
use Rattle.rows.specs.Map.{key_of, map_in, Held, fits, Entering}
use Rattle.base.specs.declared.refusal.Refusal.{Refusal}
use Rattle.base.specs.declared.refusal.Refusal.TheVariants.{ListFull}
use Rattle.registers.specs.declared.Registers.{Registers}
use Rattle.walk.specs.declared.Counts.{Counts}
use Rattle.context.specs.declared.NewCall.{NewCall}
use Rattle.context.specs.declared.State.{State}
use Rattle.context.specs.declared.Stepped.{Stepped}
use Rattle.context.specs.declared.Then.{Then}
use Rattle.context.specs.declared.Then.TheVariants.{On, Goes, Ends, Refuses}
use Rattle.context.specs.Context.{Context, Maps, Step, on, refuses, ◌▸◌, entered, with_maps, call_row, label_row, pool_row, table_row}
use Rattle.context.specs.Blocks.{call_to}
use Rattle.context.specs.State.{World, Holds, Settles, Comes, context_of, called, read, is_on, placed, has_place, putting, labels_in, pools_in, jump_tables_in, inline_tables_in, registers_in, count_labels, count_pools, count_jump_tables, count_inline_tables}
use Rattle.arm.specs.declared.Ins.{Ins}
use Rattle.predicates.specs.declared.Mode.{Mode}
use Rattle.predicates.specs.Predicates.{mode_no}

-- ---- insertions

-- an entry is refused for want of a place alone
pub full-refusal : {k n : ℕ} {list row after : List ℕ} {refusal : Refusal} → Entering k n list row (Err refusal) after → refusal ≡ ListFull
full-refusal {k} {n} {list} {row} {after} {refusal} i = step (fits k (length list) (inserted key_of row (map_in k n list))) i.says
  where
    step : (b : Bool) → Err refusal ≡ pick b (Ok n) (Err ListFull) → refusal ≡ ListFull
    step true e = cc
    step false e = cc

module _ {k n places : ℕ} {list row after : List ℕ} (to : List (List ℕ) → Maps) (c : Context) (long : length list ≡ places) where
  pub entered-in : {count : ℕ} → Entering k n list row (Ok count) after
      → entered k places row (map_in k n list) to c ≡ on (with_maps (to (map_in k count after)) c)
  entered-in {count} i = step (fits k (length list) (inserted key_of row (map_in k n list))) refl i.says
    where
      step : (b : Bool) → fits k (length list) (inserted key_of row (map_in k n list)) ≡ b → Ok count ≡ pick b (Ok count) (Err ListFull)
          → entered k places row (map_in k n list) to c ≡ on (with_maps (to (map_in k count after)) c)
      step true f e = rw (← long, f, i.leaves)
      step false f e = cc

  pub entered-full : {refusal : Refusal} → Entering k n list row (Err refusal) after → entered k places row (map_in k n list) to c ≡ refuses ListFull 0
  entered-full {refusal} i = step (fits k (length list) (inserted key_of row (map_in k n list))) refl i.says
    where
      step : (b : Bool) → fits k (length list) (inserted key_of row (map_in k n list)) ≡ b → Err refusal ≡ pick b (Ok n) (Err ListFull)
          → entered k places row (map_in k n list) to c ≡ refuses ListFull 0
      step true f e = cc
      step false f e = rw (← long, f)

module _ {n : Counts} (l : World) {x : ℕ} {before after : List ℕ} where
  pub labels-held : Holds n (labels_in before l) → Held label_row x after → length after ≡ length before → Holds (count_labels x n) (labels_in after l)
  labels-held h a long = record {
    labels = a;
    pools = h.pools;
    jump_tables = h.jump_tables;
    inline_tables = h.inline_tables;
    label_places = long ∙ h.label_places;
    pool_places = h.pool_places;
    jump_table_places = h.jump_table_places;
    inline_table_places = h.inline_table_places;
  }

  pub pools-held : Holds n (pools_in before l) → Held pool_row x after → length after ≡ length before → Holds (count_pools x n) (pools_in after l)
  pools-held h a long = record {
    labels = h.labels;
    pools = a;
    jump_tables = h.jump_tables;
    inline_tables = h.inline_tables;
    label_places = h.label_places;
    pool_places = long ∙ h.pool_places;
    jump_table_places = h.jump_table_places;
    inline_table_places = h.inline_table_places;
  }

  pub jump-tables-held : Holds n (jump_tables_in before l) → Held table_row x after → length after ≡ length before
      → Holds (count_jump_tables x n) (jump_tables_in after l)
  jump-tables-held h a long = record {
    labels = h.labels;
    pools = h.pools;
    jump_tables = a;
    inline_tables = h.inline_tables;
    label_places = h.label_places;
    pool_places = h.pool_places;
    jump_table_places = long ∙ h.jump_table_places;
    inline_table_places = h.inline_table_places;
  }

  pub inline-tables-held : Holds n (inline_tables_in before l) → Held table_row x after → length after ≡ length before
      → Holds (count_inline_tables x n) (inline_tables_in after l)
  inline-tables-held h a long = record {
    labels = h.labels;
    pools = h.pools;
    jump_tables = h.jump_tables;
    inline_tables = a;
    label_places = h.label_places;
    pool_places = h.pool_places;
    jump_table_places = h.jump_table_places;
    inline_table_places = long ∙ h.inline_table_places;
  }

-- the registers are in no slice
pub registers-held : {n : Counts} {l : World} (g : Registers) → Holds n l → Holds n (registers_in g l)
registers-held g h = record {
  labels = h.labels;
  pools = h.pools;
  jump_tables = h.jump_tables;
  inline_tables = h.inline_tables;
  label_places = h.label_places;
  pool_places = h.pool_places;
  jump_table_places = h.jump_table_places;
  inline_table_places = h.inline_table_places;
}

-- ---- a block that puts no call

never : {A : Type 0} {b : Bool} → b ≡ false → b ≡ true → A
never {A} {b} f t = absurd (step (sym f ∙ t))
  where
    step : false ≡ true → ⊥
    step e = let z : ◌≡◌ {A = ℕ} 0 1 = cc in omega (arith, z)

module _ {has : Bool} {a : ℕ} {k : Option NewCall} {r : Stepped} {l : World} {step : Step} where
  pub settled : Settles a k r l step → Comes has a k r l step
  settled w = record {
    stays = w.stays;
    keeps = λ p. rw w.call at p;
    holds = w.holds;
    says = λ p. w.says;
    full = λ f t. never f (ap (placed has) w.call ∙ t);
  }

-- ---- calls

abbrev pub onwards : State → Stepped
onwards s = record { then = On; state = s }

again : (a : ℕ) (r q : List ℕ) (m : List (List ℕ)) → inserted key_of (a ∷ r) (inserted key_of (a ∷ q) m) ≡ inserted key_of (a ∷ r) m
unfolding inserted
again a r q [] = rw (le-ltb a a (omega arith), eq-eqb a a refl)
again a r q (b ∷ bs) = step (ltb (key_of b) a) (eqb (key_of b) a) refl refl (again a r q bs)
  where
    step : (lt eq : Bool) → ltb (key_of b) a ≡ lt → eqb (key_of b) a ≡ eq
        → inserted key_of (a ∷ r) (inserted key_of (a ∷ q) bs) ≡ inserted key_of (a ∷ r) bs
        → inserted key_of (a ∷ r) (inserted key_of (a ∷ q) (b ∷ bs)) ≡ inserted key_of (a ∷ r) (b ∷ bs)
    step true eq p e ih = rw (p, p) (ap (λ m. b ∷ m) ih)
    step false true p e ih = rw (p, e, le-ltb a a (omega arith), eq-eqb a a refl)
    step false false p e ih = rw (p, e, le-ltb a a (omega arith), eq-eqb a a refl)

put-over : (k : Option NewCall) (a : ℕ) (r : List ℕ) (m : List (List ℕ)) → inserted key_of (a ∷ r) (called k a m) ≡ inserted key_of (a ∷ r) m
put-over None a r m = refl
put-over (Some k) a r m = again a r (k.word ∷ k.destination ∷ mode_no k.mode ∷ []) m

as_long : (a : ℕ) (r : List ℕ) (places : ℕ) (m : List (List ℕ)) → fits call_row places (inserted key_of (a ∷ r) m) ≡ fits call_row places (inserted key_of (a ∷ []) m)
as_long a r places m = rw (inserted-length key_of (a ∷ r) m, inserted-length key_of (a ∷ []) m)

module _ (i : Ins) (s : State) (word : ℕ) (mode : Mode) (l : World) where
  room : fits call_row l.given.places.calls (inserted key_of (s.progress.address ∷ word ∷ i.target ∷ mode_no mode ∷ []) (called s.call s.progress.address l.calls))
      ≡ has_place s.progress.address l
  room =
      as_long s.progress.address (word ∷ i.target ∷ mode_no mode ∷ []) l.given.places.calls (called s.call s.progress.address l.calls)
      ∙ ap (fits call_row l.given.places.calls) (put-over s.call s.progress.address [] l.calls)

  pub call-put : has_place s.progress.address l ≡ true
      → call_to i word (mode_no mode) (context_of s l) ≡ on (context_of (putting (Some (record { word = word; destination = i.target; mode = mode })) s) l)
  call-put e = rw (room, e, put-over s.call s.progress.address (word ∷ i.target ∷ mode_no mode ∷ []) l.calls)

  pub call-full : has_place s.progress.address l ≡ false → call_to i word (mode_no mode) (context_of s l) ≡ refuses ListFull 0
  call-full e = rw (room, e)

  -- a call that is put is the source's call, or a refusal for want of a place
  pub call-comes : {r : Stepped} → r ≡ record { then = On; state = putting (Some (record { word = word; destination = i.target; mode = mode })) s } → Holds s.counts l
      → Comes (has_place s.progress.address l) s.progress.address s.call r l (call_to i word (mode_no mode) (context_of s l))
  call-comes e h = rw e (record { stays = refl; keeps = keeps s.call; holds = h; says = λ p. sym (call-put p); full = λ f t. call-full f })
    where
      keeps : (k : Option NewCall) → has_place s.progress.address l ≡ true → placed (has_place s.progress.address l) k ≡ true
      keeps None p = refl
      keeps (Some k) p = p

-- ---- one block after another

on_read : (t : Then) (c : Context) → is_on t ≡ true → read t c ≡ on c
on_read On c e = refl
on_read Goes c e = cc
on_read (Ends a) c e = cc
on_read (Refuses n r) c e = cc

off-read : (t : Then) (c : Context) (f : Context → Step) → is_on t ≡ false → read t c ≡ (read t c ▸ f)
off-read On c f e = cc
off-read Goes c f e = refl
off-read (Ends a) c f e = refl
off-read (Refuses n r) c f e = refl

module _ {a : ℕ} {k : Option NewCall} {r : Stepped} {l : World} {step : Step} (f : Context → Step) where
  pub stop-settled : is_on r.then ≡ false → Settles a k r l step → Settles a k r l (step ▸ f)
  stop-settled e w = record {
    stays = w.stays;
    call = w.call;
    holds = w.holds;
    says = off-read r.then (context_of r.state l) f e ∙ ap (λ (x : Step). x ▸ f) w.says;
  }

  pub go-settled : {u : Stepped} {m : World} → is_on r.then ≡ true → Settles a k r l step
      → Settles r.state.progress.address r.state.call u m (f (context_of r.state l)) → Settles a k u m (step ▸ f)
  go-settled e w v = record {
    stays = v.stays ∙ w.stays;
    call = v.call ∙ w.call;
    holds = v.holds;
    says = v.says ∙ ap (λ (x : Step). x ▸ f) (sym (on_read r.then (context_of r.state l) e) ∙ w.says);
  }

module _ {has : Bool} {a : ℕ} {k : Option NewCall} {r : Stepped} {l : World} {step : Step} (f : Context → Step) where
  pub stop : is_on r.then ≡ false → Comes has a k r l step → Comes has a k r l (step ▸ f)
  stop e w = record {
    stays = w.stays;
    keeps = w.keeps;
    holds = w.holds;
    says = λ p. off-read r.then (context_of r.state l) f e ∙ ap (λ (x : Step). x ▸ f) (w.says p);
    full = λ p q. ap (λ (x : Step). x ▸ f) (w.full p q);
  }

  pub go_on : {u : Stepped} {m : World} → is_on r.then ≡ true → Comes has a k r l step
      → Comes has r.state.progress.address r.state.call u m (f (context_of r.state l)) → Comes has a k u m (step ▸ f)
  go_on {u} {m} e w v = record {
    stays = v.stays ∙ w.stays;
    keeps = λ p. w.keeps (v.keeps p);
    holds = v.holds;
    says = λ p. v.says p ∙ ap (λ (x : Step). x ▸ f) (goes_on (v.keeps p));
    full = λ p q. filled (placed has r.state.call) refl p q;
  }
    where
      goes_on : placed has r.state.call ≡ true → on (context_of r.state l) ≡ step
      goes_on p = sym (on_read r.then (context_of r.state l) e) ∙ w.says p

      filled : (b : Bool) → placed has r.state.call ≡ b → placed has u.state.call ≡ false → placed has k ≡ true → (step ▸ f) ≡ refuses ListFull 0
      filled true p q t = ap (λ (x : Step). x ▸ f) (sym (goes_on p)) ∙ v.full q p
      filled false p q t = ap (λ (x : Step). x ▸ f) (w.full p t)
