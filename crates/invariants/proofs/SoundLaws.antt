-- What a step keeps: each map is a map that fits its list, each pool lies in the code, the last pool is the last of them, and each register's
-- pool is one of them. What a walk is given, its start, and what its first instruction saves, no block changes.
-- Assumes nothing.
use Rattle.base.proofs.Prelude.{◌∙◌, sym, refl, ◌≡◌, false, true, Bool, List, [], ◌∷◌, map, ◌≤◌, ℕ, ◌+◌, ◌*◌, max, arith, eqb, length, get_or, eq-eqb}
use Rattle.base.proofs.Prelude.{le-leb, leb-true}
use Rattle.arm.specs.declared.Ins.{Ins}
use Rattle.std.specs.Prelude.{Some}
use Rattle.base.specs.Choice.{pick}
use Rattle.base.specs.Words.{word_from}
use Rattle.context.specs.Blocks.{other, call, marked, handle_ins}
use Rattle.context.specs.Context.{Maps, Given, Context, label_row, pool_row, table_row, call_row}
use Rattle.registers.specs.Registers.{forgotten, holding}
use Rattle.rows.specs.Order.{ascending}
use Rattle.rows.specs.Rows.{rank, stands, inserted}
use Rattle.rows.specs.Map.{key_of, stands-in, Map, fits}
use Rattle.rows.proofs.RowLaws.{ascending-kept, inserted-length, stands-inserted}
use Rattle.validity.specs.Validity.{is_whole, are_whole, are_held}
use Rattle.walk.specs.declared.Counts.{Counts}
use Rattle.invariants.proofs.BlockLaws.{Meets, Kept, loaded_from, handle_ins-kept}
use Rattle.invariants.proofs.PoolLaws.{wide-inserted, whole-stands, whole-inserted, last_of, stands-last, last-inserted, held_more}
use Rattle.invariants.proofs.PoolLaws.{held-cleared, held-set}
use Rattle.invariants.proofs.WordLaws.{found_inside}

-- ---- a map, and room for it in so many places

pub record Fit (stride places : ℕ) (m : List (List ℕ)) : Type 0 where
  pub is : Map stride m
  pub room : length m * stride ≤ places

pub record AllFit (places : Counts) (m : Maps) : Type 0 where
  pub labels : Fit label_row places.labels m.labels
  pub pools : Fit pool_row places.pools m.pools
  pub jump_tables : Fit table_row places.jump_tables m.jump_tables
  pub inline_tables : Fit table_row places.inline_tables m.inline_tables
  pub calls : Fit call_row places.calls m.calls

fit-inserted : {k places : ℕ} {m : List (List ℕ)} (row : List ℕ) → length row ≡ k → fits k places (inserted key_of row m) ≡ true → Fit k places m
    → Fit k places (inserted key_of row m)
fit-inserted {k} {places} {m} row wide room f = record {
  is = record { wide = wide-inserted k row m wide f.is.wide; rises = ascending-kept key_of row m f.is.rises };
  room = leb-true _ _ room;
}

-- ---- the pools

pub record Pooled (base code last : ℕ) (sources : List ℕ) (pools : List (List ℕ)) : Type 0 where
  pub whole : are_whole base code pools ≡ true
  pub is_last : last ≡ last_of pools
  pub are-held : are_held sources pools ≡ true

module _ (row : List ℕ) (m : List (List ℕ)) where
  stands-still : (x : ℕ) → stands-in m x ≡ true → stands-in (inserted key_of row m) x ≡ true
  stands-still x h = stands-inserted key_of x row m ∙ step (eqb (key_of row) x)
    where
      step : (b : Bool) → pick b true (stands-in m x) ≡ true
      step true = refl
      step false = h

  stands-now : stands-in (inserted key_of row m) (key_of row) ≡ true
  stands-now = rw (stands-inserted key_of (key_of row) row m, eq-eqb (key_of row) (key_of row) refl)

pooled-inserted : {base code last : ℕ} {sources : List ℕ} {m : List (List ℕ)} (row : List ℕ) → ascending (map key_of m) ≡ true
    → is_whole base code (key_of row) ≡ true → Pooled base code last sources m → Pooled base code (max last (key_of row)) sources (inserted key_of row m)
pooled-inserted {base} {code} {last} {sources} {m} row rises inside p = record {
  whole = whole-inserted base code row m inside p.whole;
  is_last = rw p.is_last (sym (last-inserted row m rises));
  are-held = held_more m (inserted key_of row m) (stands-still row m) sources p.are-held;
}

-- a mark is a row for a row
module _ (a : ℕ) {places : ℕ} {m : List (List ℕ)} (f : Fit pool_row places m) where
  abbrev row : List ℕ
  row = a ∷ get_or (get_or m (rank key_of a m) []) 1 0 ∷ call ∷ []

  fit-marked : Fit pool_row places (marked a m)
  unfolding marked
  fit-marked = step (stands key_of a m) refl
    where
      step : (b : Bool) → stands key_of a m ≡ b → Fit pool_row places (pick b (inserted key_of row m) m)
      step true e =
          let same : length (inserted key_of row m) ≡ length m = rw (inserted-length key_of row m, e) in
          fit-inserted row refl (le-leb (length (inserted key_of row m) * pool_row) places (rw same f.room)) f
      step false e = f

  pooled-marked : {base code last : ℕ} {sources : List ℕ} → Pooled base code last sources m → Pooled base code last sources (marked a m)
  unfolding marked
  pooled-marked {base} {code} {last} {sources} p = step (stands key_of a m) refl
    where
      step : (b : Bool) → stands key_of a m ≡ b → Pooled base code last sources (pick b (inserted key_of row m) m)
      step true e =
          let low : a ≤ last = rw p.is_last (stands-last m a f.is.rises e) in
          let same : max last a ≡ last = omega arith in
          rw same at (pooled-inserted row f.is.rises (whole-stands base code m a p.whole e) p)
      step false e = p

-- ---- what a step keeps

-- while the walk has what it was given, its start, and what its first instruction saves
abbrev pub Same : Given → ℕ → ℕ → Context → Type 0
Same g start saved c = (c.given ≡ g) × (c.progress.start ≡ start) × (c.progress.saved_registers ≡ saved)

abbrev pub Sound : Context → Type 0
Sound c = AllFit c.given.places c.maps
    × Pooled c.given.options.base (length c.given.code) c.progress.last_pool_address c.registers.sources c.maps.pools

whole-found : (code : List ℕ) (base a w : ℕ) → word_from code base a ≡ Some w → is_whole base (length code) a ≡ true
unfolding is_whole
whole-found code base a w e = let i = found_inside code base a w e in rw (le-leb base a i.0, le-leb (a + 4) (base + length code) i.1)

module _ (i : Ins) (size : ℕ) where
  same_kept : (g : Given) (start saved : ℕ)
      → Kept i size (Same g start saved) (λ e c. Same g start saved c)
  same_kept g start saved = record {
    machines = λ m c n p. p;
    raises = λ d c p. p;
    tables = λ d c p. p;
    defines = λ d c p. p;
    forgets = λ c p. p;
    marks = λ x c p. p;
    labels = λ r c w f p. p;
    jump_tables = λ r c w f p. p;
    inline_tables = λ r c w f p. p;
    calls = λ r c w f p. p;
    loads = λ x v c w f p. p;
    ends = λ c p. p;
    entry = λ e c p. p;
  }

  loads-kept : (a value : ℕ) (c : Context) → word_from c.given.code c.given.options.base a ≡ Some value
      → fits pool_row c.given.places.pools (inserted key_of (a ∷ value ∷ other ∷ []) c.maps.pools) ≡ true
      → Sound c → Sound (loaded_from i a value c)
  unfolding holding
  loads-kept a value c found room p =
      let row : List ℕ = a ∷ value ∷ other ∷ [] in
      let m = p.0 in
      let q = pooled-inserted row m.pools.is.rises (whole-found c.given.code c.given.options.base a value found) p.1 in (
        record {
          labels = m.labels;
          pools = fit-inserted row refl room m.pools;
          jump_tables = m.jump_tables;
          inline_tables = m.inline_tables;
          calls = m.calls;
        },
        record {
          whole = q.whole;
          is_last = q.is_last;
          are-held = held-set (inserted key_of row c.maps.pools) c.registers.sources i.rd a (stands-now row c.maps.pools) q.are-held;
        },
      )

  sound-kept : Kept i size Sound (λ e c. Sound c)
  unfolding forgotten
  sound-kept = record {
    machines = λ m c n p. p;
    raises = λ d c p. p;
    tables = λ d c p. p;
    defines = λ d c p. p;
    forgets = λ c p. (
      p.0,
      record {
        whole = p.1.whole;
        is_last = p.1.is_last;
        are-held = held-cleared c.maps.pools i.defs c.registers.sources p.1.are-held;
      },
    );
    marks = λ x c p. (
      record {
        labels = p.0.labels;
        pools = fit-marked x p.0.pools;
        jump_tables = p.0.jump_tables;
        inline_tables = p.0.inline_tables;
        calls = p.0.calls;
      },
      pooled-marked x p.0.pools p.1,
    );
    labels = λ r c w f p. (
      record {
        labels = fit-inserted r w f p.0.labels;
        pools = p.0.pools;
        jump_tables = p.0.jump_tables;
        inline_tables = p.0.inline_tables;
        calls = p.0.calls;
      },
      p.1,
    );
    jump_tables = λ r c w f p. (
      record {
        labels = p.0.labels;
        pools = p.0.pools;
        jump_tables = fit-inserted r w f p.0.jump_tables;
        inline_tables = p.0.inline_tables;
        calls = p.0.calls;
      },
      p.1,
    );
    inline_tables = λ r c w f p. (
      record {
        labels = p.0.labels;
        pools = p.0.pools;
        jump_tables = p.0.jump_tables;
        inline_tables = fit-inserted r w f p.0.inline_tables;
        calls = p.0.calls;
      },
      p.1,
    );
    calls = λ r c w f p. (
      record {
        labels = p.0.labels;
        pools = p.0.pools;
        jump_tables = p.0.jump_tables;
        inline_tables = p.0.inline_tables;
        calls = fit-inserted r w f p.0.calls;
      },
      p.1,
    );
    loads = loads-kept;
    ends = λ c p. p;
    entry = λ e c p. p;
  }

module _ (i : Ins) (word size : ℕ) (c : Context) where
  abbrev IsSame : Context → Type 0
  IsSame d = Same c.given c.progress.start c.progress.saved_registers d

  pub step_same : Meets (λ _. ⊥) IsSame (λ e d. IsSame d) (handle_ins i word size c)
  step_same =
      handle_ins-kept i size IsSame _ _ (same_kept i size c.given c.progress.start c.progress.saved_registers) (λ n d h p. p) word c (refl, refl, refl)
      (λ d p. p) (λ n h. (refl, refl, refl))

  pub step-sound : Sound c → Meets (λ _. ⊥) Sound (λ e d. Sound d) (handle_ins i word size c)
  step-sound p = handle_ins-kept i size Sound _ _ (sound-kept i size) (λ n d h p. p) word c p (λ d q. q) (λ n h. p)
