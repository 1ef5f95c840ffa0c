-- One block of a step after another, each lent only the lists that it touches.
-- Assumes nothing.
use Rattle.base.proofs.Prelude.{◌∙◌, sym, refl, ◌≡◌, ap, subst, false, true, Bool, List, [], ◌∷◌, map, ℕ, ◌+◌, ◌<◌, ◌-◌, suc, ◌*◌, zero}
use Rattle.base.proofs.Prelude.{arith, length, replicate, length-replicate, eq-eqb, lt-ltb}
use Rattle.base.specs.Choice.{pick}
use Rattle.arm.specs.declared.Ins.{Ins}
use Rattle.registers.specs.Registers.{forgotten}
use Rattle.rows.specs.Order.{rising, ascending}
use Rattle.rows.specs.Map.{key_of, Wide, Held, encode}
use Rattle.rows.proofs.MapLaws.{encode-held}
use Rattle.walk.specs.declared.Counts.{Counts}
use Rattle.std.specs.Prelude.{Option, None}
use Rattle.context.specs.declared.Module.{Module}
use Rattle.context.specs.declared.NewCall.{NewCall}
use Rattle.context.specs.declared.State.{State}
use Rattle.context.specs.declared.Stepped.{Stepped}
use Rattle.context.specs.declared.Then.TheVariants.{On}
use Rattle.context.specs.Context.{Context, Step, on as onward, goes, ends, refuses, ◌▸◌, label_row, pool_row, table_row}
use Rattle.context.specs.Blocks.{is_destination, skip_pool, mark_pool, forget_written}
use Rattle.registers.specs.declared.Registers.{Registers}
use Rattle.context.specs.State.{module_in, labels_in, pools_in, jump_tables_in, inline_tables_in, registers_in, forgotten_by, World, Holds, Settles, Comes, Does, Puts, PutsIf, ToldOfCalls, same, is_on, has_place, context_of}
use Rattle.context.proofs.Laws.{go-settled, go_on, settled, stop, stop-settled, registers-held}

-- ---- one block after another

module _ {a : ℕ} {k : Option NewCall} {r u : Stepped} {w : World} {step : Step} {before after : World → World} (f : Context → Step) where
  pub then-does : is_on r.then ≡ true → Settles a k r w step → before w ≡ w → Does before after f r.state u
      → Settles a k u (after w) (step ▸ f)
  then-does on t same d =
      go-settled f on t (rw same at (d w (rw same t.holds)))

  pub then_may : {has : Bool} → is_on r.then ≡ true → Comes has a k r w step → before w ≡ w → Does before after f r.state u
      → Comes has a k u (after w) (step ▸ f)
  then_may on t same d = go_on f on t (settled (rw same at (d w (rw same t.holds))))

  pub then-puts : is_on r.then ≡ true → Comes (has_place a w) a k r w step → before w ≡ w → Puts before after f r.state u
      → Comes (has_place a w) a k u (after w) (step ▸ f)
  then-puts on t same d =
      go_on f on t
      (subst (λ (x : ℕ). Comes (has_place x w) r.state.progress.address r.state.call u (after w) (f (context_of r.state w))) t.stays
      (rw same at (d w (rw same t.holds))))

-- ---- a world in which the lent slices stand: what a block requires is read off it

-- rows with the addresses i, i + 1, ..: some list holds any count
numbered : ℕ → ℕ → ℕ → List (List ℕ)
numbered k i zero = []
numbered k i (suc n) = (i ∷ replicate (k - 1) 0) ∷ numbered k (suc i) n

numbered-length : (k i n : ℕ) → length (numbered k i n) ≡ n
unfolding numbered
numbered-length k i zero = refl
numbered-length k i (suc n) = ap suc (numbered-length k (suc i) n)

numbered-wide : (k i n : ℕ) → 0 < k → Wide k (numbered k i n)
unfolding numbered
numbered-wide k i zero s = tt
numbered-wide k i (suc n) s = (omega (arith, length-replicate {A = ℕ} (k - 1) 0), numbered-wide k (suc i) n s)

numbered-rising : (k i n : ℕ) → rising i (map key_of (numbered k (suc i) n)) ≡ true
unfolding rising numbered
numbered-rising k i zero = refl
numbered-rising k i (suc n) = rw (lt-ltb i (suc i) (omega arith)) (numbered-rising k (suc i) n)

numbered-ascends : (k i n : ℕ) → ascending (map key_of (numbered k i n)) ≡ true
unfolding ascending numbered
numbered-ascends k i zero = refl
numbered-ascends k i (suc n) = numbered-rising k i n

pub some : ℕ → ℕ → List ℕ
some k n = encode (n * k) (numbered k 0 n)

pub some-held : (k n : ℕ) → 0 < k → Held k n (some k n)
unfolding some
some-held k n s =
    let many = numbered-length k 0 n in
    (encode-held {places = n * k} (numbered k 0 n) s (record { wide = numbered-wide k 0 n s; rises = numbered-ascends k 0 n }) (rw many (omega arith)) (sym many) refl).0

abbrev pub standing : List (List ℕ) → List ℕ → List ℕ → List ℕ → List ℕ → World
standing calls labels pools jumps inlines = record {
  given = record {
    options = record { base = 0; module_start = 0; module_end = 0; known_end = None; check = false };
    places = record { labels = length labels; pools = length pools; jump_tables = length jumps; inline_tables = length inlines; calls = 0 };
    code = [];
    starts = [];
  };
  labels = labels;
  pools = pools;
  jump_tables = jumps;
  inline_tables = inlines;
  calls = calls;
  registers = record { values = []; sources = [] };
}

pub stands : {n : Counts} (calls : List (List ℕ)) (labels pools jumps inlines : List ℕ) → Held label_row n.labels labels → Held pool_row n.pools pools
    → Held table_row n.jump_tables jumps → Held table_row n.inline_tables inlines → Holds n (standing calls labels pools jumps inlines)
stands calls labels pools jumps inlines a b c d = record {
  labels = a;
  pools = b;
  jump_tables = c;
  inline_tables = d;
  label_places = refl;
  pool_places = refl;
  jump_table_places = refl;
  inline_table_places = refl;
}

-- the written registers are forgotten behind the block
pub then-forgets : (i : Ins) {a : ℕ} {k : Option NewCall} {r : Stepped} {w : World} {step : Step} → is_on r.then ≡ true → Settles a k r w step
    → Settles a k (record { then = On; state = r.state }) (registers_in (forgotten w.registers i.defs) w) (step ▸ forget_written i)
unfolding forget_written
then-forgets i on t = go-settled (forget_written i) on t (record { stays = refl; call = refl; holds = registers-held _ t.holds; says = refl })

-- calls of which what is told holds
abbrev pub calls_for : Bool → ℕ → List (List ℕ)
calls_for is_called next = pick is_called ((0 ∷ 0 ∷ next ∷ 0 ∷ []) ∷ []) []

pub told-for : (is_called : Bool) (next : ℕ) → is_called ≡ is_destination next (calls_for is_called next)
unfolding is_destination
told-for true next = rw (eq-eqb next next refl)
told-for false next = refl

-- the module has no part in it
pub given-held : {n : Counts} {l : World} (m : Module) → Holds n l → Holds n (module_in m l)
given-held m h = record {
  labels = h.labels;
  pools = h.pools;
  jump_tables = h.jump_tables;
  inline_tables = h.inline_tables;
  label_places = h.label_places;
  pool_places = h.pool_places;
  jump_table_places = h.jump_table_places;
  inline_table_places = h.inline_table_places;
}

-- ---- a row of blocks

abbrev pub run : Step → List (Context → Step) → Step
run x [] = x
run x (f ∷ fs) = run (x ▸ f) fs

-- the blocks behind one that did not go on
pub stop-all-settled : {a : ℕ} {k : Option NewCall} {r : Stepped} {l : World} {step : Step} (fs : List (Context → Step)) → is_on r.then ≡ false → Settles a k r l step
    → Settles a k r l (run step fs)
stop-all-settled [] off t = t
stop-all-settled (f ∷ fs) off t = stop-all-settled fs off (stop-settled f off t)

pub stop-all : {has : Bool} {a : ℕ} {k : Option NewCall} {r : Stepped} {l : World} {step : Step} (fs : List (Context → Step)) → is_on r.then ≡ false
    → Comes has a k r l step → Comes has a k r l (run step fs)
stop-all [] off t = t
stop-all (f ∷ fs) off t = stop-all fs off (stop f off t)

-- a row of blocks as one block behind a step
run-stopped : (fs : List (Context → Step)) (x : Step) → ((f : Context → Step) → (x ▸ f) ≡ x) → run x fs ≡ x
run-stopped [] x stays = refl
run-stopped (f ∷ fs) x stays = rw (stays f) (run-stopped fs x stays)

pub behind : (x : Step) (f : Context → Step) (fs : List (Context → Step)) → (x ▸ (λ c. run (f c) fs)) ≡ run (x ▸ f) fs
behind (onward c) f fs = refl
behind (goes c) f fs = sym (run-stopped fs (goes c) (λ g. refl))
behind (ends a c) f fs = sym (run-stopped fs (ends a c) (λ g. refl))
behind (refuses n r) f fs = sym (run-stopped fs (refuses n r) (λ g. refl))

-- what the code asked of the block before
pub went_on : {b t : Bool} → b ≡ t → b ≡ true → t ≡ true
went_on e left = sym e ∙ left

pub stopped : {b t : Bool} → b ≡ t → b ≡ false → t ≡ false
stopped e taken = sym e ∙ taken

-- ---- to_return: behind its first blocks f the code has come to r, with these pools and jump tables. A law for each kind of block, by what it is lent

pub record To (s : State) (held : Registers) (pools jumps inlines : List ℕ) (f : Context → Step) (p j : List ℕ) (r : Stepped) : Type 0 where
  pub does : Does (λ l. registers_in held (pools_in pools (jump_tables_in jumps (inline_tables_in inlines l))))
      (λ l. registers_in held (pools_in p (jump_tables_in j (inline_tables_in inlines l)))) f s r

pub to-first : (s : State) (held : Registers) (jumps inlines : List ℕ) {pools : List ℕ} {r : Stepped} → Does (pools_in pools) (pools_in pools) skip_pool s r
    → To s held pools jumps inlines skip_pool pools jumps r
to-first s held jumps inlines d = record { does = λ l h. d (registers_in held (jump_tables_in jumps (inline_tables_in inlines l))) h }

module _ {s : State} {held : Registers} {pools jumps inlines : List ℕ} {r : Stepped} {f : Context → Step} {p j : List ℕ} (t : To s held pools jumps inlines f p j r) where
  module _ {u : Stepped} (on : is_on r.then ≡ true) (g : Context → Step) where
    pub to-inlines : Does (inline_tables_in inlines) (inline_tables_in inlines) g r.state u → To s held pools jumps inlines (λ c. f c ▸ g) p j u
    to-inlines d = record { does = λ l h. then-does g on (t.does l h) refl d }

    pub to-jumps : {after : List ℕ} → Does (jump_tables_in j) (jump_tables_in after) g r.state u → To s held pools jumps inlines (λ c. f c ▸ g) p after u
    to-jumps d = record { does = λ l h. then-does g on (t.does l h) refl d }

    pub to-alone : Does same same g r.state u → To s held pools jumps inlines (λ c. f c ▸ g) p j u
    to-alone d = record { does = λ l h. then-does g on (t.does l h) refl d }

  -- the last blocks stop nowhere
  pub to-goes : is_on r.then ≡ true → (i : Ins) {after : List ℕ}
      → Does (λ l. registers_in held (pools_in p l)) (λ l. registers_in held (pools_in after l)) (mark_pool i) r.state (record { then = On; state = r.state })
      → Does (λ l. registers_in held (pools_in pools (jump_tables_in jumps (inline_tables_in inlines l))))
      (λ l. registers_in (forgotten held i.defs) (pools_in after (jump_tables_in j (inline_tables_in inlines l)))) (λ c. f c ▸ mark_pool i ▸ forget_written i) s
      (record { then = On; state = r.state })
  to-goes on i d = λ l h. then-forgets i refl (then-does (mark_pool i) on (t.does l h) refl d)

  -- the blocks fs behind one that stopped
  pub to-stops : is_on r.then ≡ false → (i : Ins) (fs : List (Context → Step))
      → Does (λ l. registers_in held (pools_in pools (jump_tables_in jumps (inline_tables_in inlines l))))
      (λ l. registers_in (forgotten_by r.then i held) (pools_in p (jump_tables_in j (inline_tables_in inlines l)))) (λ c. run (f c) fs) s r
  to-stops off i fs = λ l h. rw off (stop-all-settled fs off (t.does l h))

  -- what the next block requires
  pub to_held : Held pool_row s.counts.pools pools → Held table_row s.counts.jump_tables jumps → Held table_row s.counts.inline_tables inlines
      → Held pool_row r.state.counts.pools p × Held table_row r.state.counts.jump_tables j × Held table_row r.state.counts.inline_tables inlines
  to_held a b c =
      let m = some label_row s.counts.labels in
      let many = stands [] m pools jumps inlines (some-held label_row s.counts.labels (omega arith)) a b c in
      let h = (t.does (standing [] m pools jumps inlines) (registers-held held many)).holds in
      (h.pools, h.jump_tables, h.inline_tables)

-- ---- from_return: what the blocks behind the first ones, f, may require, in a world in which these slices stand

abbrev pub standing_by : State → ℕ → Bool → List ℕ → List ℕ → List ℕ → World
standing_by s size called labels pools inlines =
    standing (calls_for called (s.progress.address + size)) labels pools (some table_row s.counts.jump_tables) inlines

pub came : (m : Module) (s : State) (size : ℕ) (inside returns called : Bool) (labels pools inlines after : List ℕ) (f : Context → Step) {r : Stepped}
    → PutsIf (ToldOfCalls size inside returns called s) (λ l. module_in m (labels_in labels (pools_in pools l)))
    (λ l. module_in m (labels_in after (pools_in pools l))) f s r
    → Held label_row s.counts.labels labels → Held pool_row s.counts.pools pools → Held table_row s.counts.inline_tables inlines → s.call ≡ None
    → Holds r.state.counts (module_in m (labels_in after (pools_in pools (standing_by s size called labels pools inlines))))
    × (r.state.progress.address ≡ s.progress.address)
came m s size inside returns called labels pools inlines after f d a b c none =
    let next = s.progress.address + size in
    let j = some table_row s.counts.jump_tables in
    let l = standing (calls_for called next) labels pools j inlines in
    let told : ToldOfCalls size inside returns called s l = λ _. rw none (told-for called next) in
    let many = stands (calls_for called next) labels pools j inlines a b (some-held table_row s.counts.jump_tables (omega arith)) c in
    let end = d l told (given-held m many) in
    (end.holds, end.stays)
