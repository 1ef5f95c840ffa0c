-- What the blocks about registers and pools come to, from what their calls hand back.
-- Assumes nothing.
use Rattle.base.proofs.Prelude.{◌∙◌, sym, refl, ◌≡◌, ap, false, true, Bool, List, [], ◌∷◌, ℕ, ◌<◌, ◌*◌, arith, not, eqb, ltb, length, get_or, le-leb}
use Rattle.analysis.specs.declared.illegal_code.IllegalCodeState.{IllegalCodeState}
use Rattle.analysis.specs.declared.illegal_code.IllegalCodeState.TheVariants.{Start, ShiftedRegisterValue, Illegal}
use Rattle.arm.specs.declared.Ins.{Ins}
use Rattle.base.specs.Choice.{pick}
use Rattle.std.specs.Prelude.{Some, None, Result, Ok, Err}
use Rattle.std.specs.Bool.{then_some}
use Rattle.base.specs.Words.{word_from}
use Rattle.predicates.specs.Predicates.{is_bx, is_pool_load, pool_address}
use Rattle.registers.specs.declared.Registers.{Registers}
use Rattle.registers.specs.Registers.{source_of, some_unless_0, register_of}
use Rattle.base.specs.declared.refusal.Refusal.{Refusal}
use Rattle.rows.specs.Rows.{rank, stands, inserted}
use Rattle.rows.specs.Map.{key_of, map_in, Held, index_of, Entering}
use Rattle.rows.proofs.RowLaws.{inserted-length, stands-within}
use Rattle.rows.proofs.MapLaws.{map-length}
use Rattle.context.specs.declared.Module.{Module}
use Rattle.context.specs.declared.State.{State}
use Rattle.context.specs.declared.Stepped.{Stepped}
use Rattle.context.specs.declared.Then.TheVariants.{On, Refuses}
use Rattle.context.specs.Context.{Context, on, pool_row, pool_to}
use Rattle.context.specs.Blocks.{after_code, call, other, marked, mark_pool, pool_load}
use Rattle.context.specs.State.{Does, pools_in, code_in, options_in, registers_in, loaded_in, counted, progressed, count_pools}
use Rattle.context.proofs.Laws.{full-refusal, entered-in, entered-full, pools-held, registers-held}

-- ---- a place or a register that may be missing

then-is : (b : Bool) {n k : ℕ} → then_some b n ≡ Some k → (b ≡ true) × (n ≡ k)
then-is true q = (refl, cc)
then-is false q = let z : ◌≡◌ {A = ℕ} 0 1 = cc in absurd (omega (arith, z))

then-none : (b : Bool) (n : ℕ) → then_some b n ≡ None → b ≡ false
then-none true n q = let z : ◌≡◌ {A = ℕ} 0 1 = cc in absurd (omega (arith, z))
then-none false n q = refl

pub register-is : {n k : ℕ} → register_of n ≡ Some k → (ltb n 16 ≡ true) × (n ≡ k)
register-is {n} q = then-is (ltb n 16) q

pub no-register : (n : ℕ) → register_of n ≡ None → ltb n 16 ≡ false
no-register n q = then-none (ltb n 16) n q

-- ---- illegal code

pub legal : (s : IllegalCodeState) (c : Context) → ((reason : Refusal) → s ≡ Illegal reason → ⊥) → after_code s c ≡ on c
legal Start c n = refl
legal (ShiftedRegisterValue r) c n = refl
legal (Illegal reason) c n = absurd (n reason refl)

-- ---- a row for one that is held

module _ (x : ℕ) (m : List (List ℕ)) {i : ℕ} where
  found-stands : index_of x m ≡ Some i → stands key_of x m ≡ true
  unfolding index_of
  found-stands = step (stands key_of x m)
    where
      step : (b : Bool) → pick b (Some (rank key_of x m)) None ≡ Some i → b ≡ true
      step true q = refl
      step false q = cc

  found-place : index_of x m ≡ Some i → rank key_of x m ≡ i
  unfolding index_of
  found-place = step (stands key_of x m)
    where
      step : (b : Bool) → pick b (Some (rank key_of x m)) None ≡ Some i → rank key_of x m ≡ i
      step true q = cc
      step false q = cc

pub found_within : (x : ℕ) (m : List (List ℕ)) {i : ℕ} → index_of x m ≡ Some i → i < length m
found_within x m {i} q = omega (arith, stands-within key_of x m (found-stands x m q), found-place x m q)

missing-stands : (x : ℕ) (m : List (List ℕ)) → index_of x m ≡ None → stands key_of x m ≡ false
unfolding index_of
missing-stands x m = step (stands key_of x m)
  where
    step : (b : Bool) → pick b (Some (rank key_of x m)) None ≡ None → b ≡ false
    step true q = cc
    step false q = refl

-- it needs no free place
over : {k n : ℕ} {list row after : List ℕ} (e : Result ℕ Refusal) → Held k n list → stands key_of (key_of row) (map_in k n list) ≡ true
    → Entering k n list row e after → Held k n after × (map_in k n after ≡ inserted key_of row (map_in k n list))
over {k} {n} {list} {row} {after} e h st i = step e i
  where
    many : length (inserted key_of row (map_in k n list)) ≡ n
    many = inserted-length key_of row (map_in k n list) ∙ rw (st, map-length k n list)

    step : (e : Result ℕ Refusal) → Entering k n list row e after → Held k n after × (map_in k n after ≡ inserted key_of row (map_in k n list))
    step (Ok count) i =
        let same : count ≡ n = sym (map-length k count after) ∙ ap length i.leaves ∙ many in
        (rw same at i.held, rw same at i.leaves)
    step (Err refusal) i =
        let none : ◌≡◌ {A = Result ℕ Refusal} (Err refusal) (Ok n) = i.says ∙ rw (many, le-leb (n * k) (length list) h.fits) in
        absurd (let z : ◌≡◌ {A = ℕ} 0 1 = cc in omega arith)

-- ---- the mark of a pool

abbrev pub Marks : ℕ → ℕ → List ℕ → List ℕ → Type 0
Marks n a before after = Held pool_row n after × (map_in pool_row n after ≡ marked a (map_in pool_row n before))

module _ {n : ℕ} {before : List ℕ} (h : Held pool_row n before) (a : ℕ) where
  pub mark-found : {i value : ℕ} {after : List ℕ} {e : Result ℕ Refusal} → index_of a (map_in pool_row n before) ≡ Some i
      → value ≡ get_or (get_or (map_in pool_row n before) i []) 1 0 → Entering pool_row n before (a ∷ value ∷ call ∷ []) e after → Marks n a before after
  unfolding marked
  mark-found {e = e} q v put =
      let st = found-stands a (map_in pool_row n before) q in
      let w = over e h st put in
      (w.0, rw (st, found-place a (map_in pool_row n before) q, ← v) w.1)

  pub mark-missing : index_of a (map_in pool_row n before) ≡ None → Marks n a before before
  unfolding marked
  mark-missing q = (h, rw (missing-stands a (map_in pool_row n before) q))

module _ (i : Ins) (s : State) (g : Registers) {before : List ℕ} (bx : is_bx i ≡ true) where
  pub marks : {source : ℕ} {after : List ℕ} → some_unless_0 (source_of g i.rm) ≡ Some source → Marks s.counts.pools source before after
      → length after ≡ length before
      → Does (λ l. registers_in g (pools_in before l)) (λ l. registers_in g (pools_in after l)) (mark_pool i) s (record { then = On; state = s })
  unfolding mark_pool
  marks q w long = λ l h.
      let from = then-is (not (eqb (source_of g i.rm) 0)) q in
      record {
        stays = refl;
        call = refl;
        holds = pools-held (registers_in g l) h w.0 long;
        says = rw (bx, from.0, from.1, w.1);
      }

  pub marks-none : some_unless_0 (source_of g i.rm) ≡ None
      → Does (λ l. registers_in g (pools_in before l)) (λ l. registers_in g (pools_in before l)) (mark_pool i) s (record { then = On; state = s })
  unfolding mark_pool
  marks-none q = λ l h. rw (bx, then-none (not (eqb (source_of g i.rm) 0)) _ q) (record { stays = refl; call = refl; holds = h; says = refl })

-- ---- pool load

module _ (m : Module) (i : Ins) (s : State) {a value : ℕ} {before after : List ℕ}
    (load : is_pool_load i ≡ true)
    (ae : a ≡ pool_address s.progress.address i)
    (q : word_from m.code.now m.options.base a ≡ Some value)
    (long : length after ≡ length before) where
  pub pool-full : {refusal : Refusal} {r : Stepped} → Entering pool_row s.counts.pools before (a ∷ value ∷ other ∷ []) (Err refusal) after
      → r ≡ record { then = Refuses refusal 0; state = s }
      → Does (λ l. code_in m.code.now (options_in m.options (pools_in before l))) (λ l. code_in m.code.now (options_in m.options (pools_in after l))) (pool_load i) s r
  unfolding pool_load
  pool-full put re = λ l h.
      rw (re, full-refusal put)
      (record {
        stays = refl;
        call = refl;
        holds = pools-held (code_in m.code.now (options_in m.options l)) h put.held long;
        says = sym (rw (load, ← ae, q, entered-full _ _ h.pool_places put));
      })

  pub pool-in : {count : ℕ} {t v : State} {r : Stepped} → Entering pool_row s.counts.pools before (a ∷ value ∷ other ∷ []) (Ok count) after
      → t ≡ counted (count_pools count s.counts) s → v ≡ progressed (pool_to a t.progress) t → r ≡ record { then = On; state = v }
      → Does (λ l. code_in m.code.now (options_in m.options (pools_in before l))) (λ l. loaded_in (Some (record { register = i.rd; value = value; address = a })) (code_in m.code.now (options_in m.options (pools_in after l)))) (pool_load i) s r
  unfolding pool_load
  pool-in put te ve re = λ l h.
      rw (re, ve, te) (record {
        stays = refl;
        call = refl;
        holds = registers-held _ (pools-held (code_in m.code.now (options_in m.options l)) h put.held long);
        says = sym (rw (load, ← ae, q, entered-in _ _ h.pool_places put));
      })
