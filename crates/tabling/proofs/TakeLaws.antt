-- A start that is taken: what is found at it, and the table and the places that it leaves.
-- Assumes nothing.
use Rattle.base.proofs.Prelude.{◌∙◌, sym, refl, ◌≡◌, ap, true, false≢true, List, [], ◌∷◌, ◌++◌, ◌≤◌, ℕ, ◌+◌, ◌-◌, ◌*◌, ◌<◌, ◌^◌, suc, ⊎_elim, arith}
use Rattle.base.proofs.Prelude.{length, get_or, leb, length-replicate, le-leb, lt-ltb, leb-true, ltb-true}
use native.Mathlib.Nat.{mul-le-mul_right, add-mul}
use lib.ListN.{length-map}
use Rattle.std.specs.Prelude.{Option, Some, None, Result, Ok}
use Rattle.std.specs.Result.{is_err}
use Rattle.std.specs.List.{sum_by}
use Rattle.std.proofs.lemmas.List.Sums.{sum_by-append, sum_by-cons}
use Rattle.base.proofs.ChoiceLaws.{both_true, both-are}
use Rattle.base.specs.declared.refusal.Refusal.{Refusal}
use Rattle.context.specs.Context.{Maps}
use Rattle.context.specs.Lists.{Lists, maps_in, places_of}
use Rattle.context.specs.Turn.{no_maps, counts_of}
use Rattle.invariants.proofs.CheckLaws.{held-order}
use Rattle.rows.specs.Map.{map_in, flat}
use Rattle.rows.proofs.MapLaws.{map-length, held-flat}
use Rattle.stepper.specs.declared.Answered.{Answered}
use Rattle.stepper.specs.Stepper.{After, Called}
use Rattle.table.specs.Table.{Function}
use Rattle.table.specs.Held.{function_row, label_row, pool_row, jump_table_row, inline_table_row, call_row, labels_at, pools_at, jump_tables_at, inline_tables_at, calls_at}
use Rattle.table.specs.Held.{Lists as Held, flagged, function_in, past, functions_in, fits_lists, is_sound}
use Rattle.text.specs.Put.{put}
use Rattle.text.proofs.Put.{put-length}
use Rattle.walk.specs.declared.Answer.{Answer}
use Rattle.walk.specs.declared.Answer.TheVariants.{Accepted}
use Rattle.walk.specs.declared.Counts.{Counts}
use Rattle.walk.specs.declared.Options.{Options}
use Rattle.walk.specs.declared.Record.{Record}
use Rattle.whole.specs.Whole.{run}
use Rattle.append.specs.Append.{Lent, function_of, row_of, rows_of, table_of, total, used, fits, is_above, last_of, is_next, has_room, has_places, checked, answer, appended, Appended}
use Rattle.append.proofs.CheckLaws.{Passed, next-passed, passed-room, passed-row}
use Rattle.append.proofs.AppendLaws.{rows-after}
use Rattle.append_laws.proofs.KeptLaws.{kept}
use Rattle.tabling.specs.Tabling.{places, left, empty_lists, walked, Found, taken, taken_by, found_at}
use Rattle.tabling.specs.Taking.{rows_for, without, Within, Lends, Ready, Took}
use Rattle.tabling.proofs.RunLaws.{HasFirst, same-run, accepted-leaves}

-- ---- how many entries a table has

kind-total : (at : ℕ) (len : Function → ℕ) → ((row : List ℕ) (l : Held) → len (function_in row l) ≡ get_or row at 0) → (rows : List (List ℕ)) (l : Held)
    → total at rows ≡ sum_by len (functions_in rows l)
unfolding functions_in
kind-total at len each [] l = refl
kind-total at len each (row ∷ rows) l =
    sum_by-cons (λ (r : List ℕ). get_or r at 0) row rows
    ∙ ap (λ (n : ℕ). n + total at rows) (sym (each row l)) ∙ ap (λ (n : ℕ). len (function_in row l) + n) (kind-total at len each rows (past row l))
    ∙ sym (sum_by-cons len (function_in row l) (functions_in rows (past row l)))

record Totals (t : Lent) : Type 0 where
  pub labels : total labels_at (rows_of t) ≡ sum_by (λ f. length f.labels) (table_of t)
  pub pools : total pools_at (rows_of t) ≡ sum_by (λ f. length f.pools) (table_of t)
  pub jump_tables : total jump_tables_at (rows_of t) ≡ sum_by (λ f. length f.jump_tables) (table_of t)
  pub inline_tables : total inline_tables_at (rows_of t) ≡ sum_by (λ f. length f.inline_tables) (table_of t)
  pub calls : total calls_at (rows_of t) ≡ sum_by (λ f. length f.calls) (table_of t)

totals-are : (t : Lent) → Totals t
unfolding function_in
totals-are t = record {
  labels = kind-total labels_at (λ f. length f.labels) (λ row l. map-length label_row (get_or row labels_at 0) l.labels) (rows_of t) t.lists;
  pools = kind-total pools_at (λ f. length f.pools) (λ row l. length-map (map_in pool_row (get_or row pools_at 0) l.pools) (flagged 2) ∙ map-length pool_row (get_or row pools_at 0) l.pools) (rows_of t) t.lists;
  jump_tables = kind-total jump_tables_at (λ f. length f.jump_tables) (λ row l. map-length jump_table_row (get_or row jump_tables_at 0) l.jump_tables) (rows_of t) t.lists;
  inline_tables = kind-total inline_tables_at (λ f. length f.inline_tables) (λ row l. map-length inline_table_row (get_or row inline_tables_at 0) l.inline_tables) (rows_of t) t.lists;
  calls = kind-total calls_at (λ f. length f.calls) (λ row l. length-map (map_in call_row (get_or row calls_at 0) l.calls) (flagged 3) ∙ map-length call_row (get_or row calls_at 0) l.calls) (rows_of t) t.lists;
}

-- ---- what is left, with a function more

empty-places : (n : Counts) → places_of (empty_lists n) ≡ rows_for n
unfolding empty_lists
empty-places n =
    rw (
      length-replicate {A = ℕ} (n.labels * label_row) 0,
      length-replicate {A = ℕ} (n.pools * pool_row) 0,
      length-replicate {A = ℕ} (n.jump_tables * jump_table_row) 0,
      length-replicate {A = ℕ} (n.inline_tables * inline_table_row) 0,
      length-replicate {A = ℕ} (n.calls * call_row) 0,
    )

less : (most k : ℕ) (len : Function → ℕ) (table : List Function) (f : Function) → len f ≡ k
    → most - sum_by len table - k ≡ most - sum_by len (table ++ (f ∷ []))
less most k len table f e =
    let all : sum_by len (table ++ (f ∷ [])) ≡ sum_by len table + k = sum_by-append len table (f ∷ []) ∙ rw (sum_by-cons len f []) (omega (arith, e)) in
    omega (arith, all)

left-less : (table : List Function) (r : Record) (n : Counts) (l : Lists) → without (left table) n ≡ left (table ++ (function_of r (maps_in n l) ∷ []))
unfolding left function_of
left-less table r n l =
    let f = function_of r (maps_in n l) in
    rw (
      less places.labels n.labels (λ f. length f.labels) table f (map-length label_row n.labels l.labels),
      less places.pools n.pools (λ f. length f.pools) table f (length-map (map_in pool_row n.pools l.pools) (flagged 2) ∙ map-length pool_row n.pools l.pools),
      less places.jump_tables n.jump_tables (λ f. length f.jump_tables) table f (map-length jump_table_row n.jump_tables l.jump_tables),
      less places.inline_tables n.inline_tables (λ f. length f.inline_tables) table f (map-length inline_table_row n.inline_tables l.inline_tables),
      less places.calls n.calls (λ f. length f.calls) table f (length-map (map_in call_row n.calls l.calls) (flagged 3) ∙ map-length call_row n.calls l.calls),
    )

-- ---- the last function

last-more : (rows : List (List ℕ)) (row : List ℕ) → last_of (rows ++ (row ∷ [])) ≡ Some row
last-more [] row = refl
last-more (r ∷ []) row = refl
last-more (r ∷ s ∷ rows) row =
    let e : length (r ∷ s ∷ (rows ++ (row ∷ []))) - 1 ≡ suc (length (s ∷ (rows ++ (row ∷ []))) - 1) = omega arith in
    rw e (last-more (s ∷ rows) row)

above-later : (a b : ℕ) (o : Option (List ℕ)) → a < b → is_above a o ≡ true → is_above b o ≡ true
above-later a b None h e = refl
above-later a b (Some row) h e = let below = ltb-true (get_or row 2 0) a e in lt-ltb (get_or row 2 0) b (omega arith)

-- ---- what a walk finds

module _ (o : Options) (code : List ℕ) (start : ℕ) (l : Lists) (t : Lent) (n : Counts) (ready : Ready l t n start) where
  abbrev none : Counts
  none = counts_of no_maps

  abbrev here : After
  here = run o code [] start none l

  same-places : places_of l ≡ places_of (empty_lists n)
  same-places = ready.places ∙ sym (empty-places n)

  pub found-here : found_at o code start (table_of t) ≡ taken start here (table_of t)
  unfolding found_at walked
  found-here =
      ap (λ (k : Counts). taken start (run o code [] start none (empty_lists k)) (table_of t)) (sym ready.readied.kept.left)
      ∙ ⊎_elim (λ e. ap (λ (a : After). taken start a (table_of t)) (sym e))
      (λ (refusal, p, q). ap (λ (x : Answer). taken_by start x (run o code [] start none (empty_lists n)) (table_of t)) q
      ∙ ap (λ (x : Answer). taken_by start x here (table_of t)) (sym p))
      (same-run o code [] start none l (empty_lists n) same-places)

  -- a table that stays
  pub stays : (found_at o code start (table_of t)).table ≡ table_of t → Took o code start t t n
  stays e = record {
    table = sym e;
    kept = ready.readied.kept;
    functions = refl;
    count = omega arith;
    next = λ s h. above-later start s (last_of (rows_of t)) h ready.readied.next;
  }

  -- ---- an accepted one, whose walk left these lists and counts

  module _ (a : After) (is : a ≡ here) (r : Record) (accepted : a.answer ≡ Accepted r) where
    abbrev k : Counts
    k = a.walk.counts

    leaves : Rattle.tabling.proofs.RunLaws.Leaves start l a
    leaves = rw is (accepted-leaves o code [] start none l r (ap (λ (x : After). x.answer) (sym is) ∙ accepted))

    begins : r.first_instruction ≡ start
    begins = rw accepted at leaves.first

    -- it has no more entries than are left
    pub few : Within k n
    few =
        let h = leaves.held in
        let p = leaves.places ∙ ready.places in
        let labels = ap (λ (x : Counts). x.labels) p in
        let pools = ap (λ (x : Counts). x.pools) p in
        let jumps = ap (λ (x : Counts). x.jump_tables) p in
        let inlines = ap (λ (x : Counts). x.inline_tables) p in
        let calls = ap (λ (x : Counts). x.calls) p in
        record {
          labels = omega (arith, h.labels.fits, labels);
          pools = omega (arith, h.pools.fits, pools);
          jump_tables = omega (arith, h.jump_tables.fits, jumps);
          inline_tables = omega (arith, h.inline_tables.fits, inlines);
          calls = omega (arith, h.calls.fits, calls);
        }

    one-room : (stride most others count most-left : ℕ) (list : List ℕ) → length list ≡ most * stride → most-left ≡ most - others → count ≤ most-left → others ≤ most
        → most < 2 ^ 32 → has_room stride others count list ≡ true
    unfolding has_room
    one-room stride most others count most-left list long is-left up within small =
        let fewer : others + count ≤ most = omega arith in
        let room : (others + count) * stride ≤ most * stride = mul-le-mul_right stride fewer in
        let fit : (others + count) * stride ≤ length list = omega arith in
        let low : count < 2 ^ 32 = omega arith in
        both-are _ _ (lt-ltb _ _ low) (le-leb _ _ fit)

    fits-all : fits_lists (rows_of t) t.lists ≡ true
    unfolding is_sound
    fits-all = (both_true _ _ (both_true _ _ ready.readied.kept.sound).1).0

    rows-all : leb (t.count * function_row) (length t.functions) ≡ true
    unfolding is_sound
    rows-all = (both_true _ _ ready.readied.kept.sound).0

    is-next : is_next r.first_instruction k a.lists t ≡ true
    unfolding is_next fits
    is-next =
        let above : is_above r.first_instruction (last_of (rows_of t)) ≡ true = rw begins ready.readied.next in
        rw (rows-all, fits-all, held-order k a.lists leaves.held, above)

    -- the table's own entries have their places
    record Own : Type 0 where
      pub labels : total labels_at (rows_of t) * label_row ≤ length t.lists.labels
      pub pools : total pools_at (rows_of t) * pool_row ≤ length t.lists.pools
      pub jump_tables : total jump_tables_at (rows_of t) * jump_table_row ≤ length t.lists.jump_tables
      pub inline_tables : total inline_tables_at (rows_of t) * inline_table_row ≤ length t.lists.inline_tables
      pub calls : total calls_at (rows_of t) * call_row ≤ length t.lists.calls

    own : Own
    unfolding fits_lists
    own =
        let f1 = both_true _ _ fits-all in
        let f2 = both_true _ _ f1.1 in
        let f3 = both_true _ _ f2.1 in
        let f4 = both_true _ _ f3.1 in
        record { labels = leb-true _ _ f1.0; pools = leb-true _ _ f2.0; jump_tables = leb-true _ _ f3.0; inline_tables = leb-true _ _ f4.0; calls = leb-true _ _ f4.1 }

    labels-room : has_room label_row (total labels_at (rows_of t)) k.labels t.lists.labels ≡ true
    unfolding left
    labels-room =
        let sum = (totals-are t).labels in
        let same = ap (λ (x : Counts). x.labels) ready.readied.kept.left in
        let is-left : n.labels ≡ places.labels - total labels_at (rows_of t) = rw sum same in
        let long = ready.readied.kept.lends.labels in
        let mine = own.labels in
        let within : total labels_at (rows_of t) ≤ places.labels = omega arith in
        one-room label_row places.labels _ k.labels n.labels t.lists.labels long is-left few.labels within (omega arith)

    pools-room : has_room pool_row (total pools_at (rows_of t)) k.pools t.lists.pools ≡ true
    unfolding left
    pools-room =
        let sum = (totals-are t).pools in
        let same = ap (λ (x : Counts). x.pools) ready.readied.kept.left in
        let is-left : n.pools ≡ places.pools - total pools_at (rows_of t) = rw sum same in
        let long = ready.readied.kept.lends.pools in
        let mine = own.pools in
        let within : total pools_at (rows_of t) ≤ places.pools = omega arith in
        one-room pool_row places.pools _ k.pools n.pools t.lists.pools long is-left few.pools within (omega arith)

    jump_tables-room : has_room jump_table_row (total jump_tables_at (rows_of t)) k.jump_tables t.lists.jump_tables ≡ true
    unfolding left
    jump_tables-room =
        let sum = (totals-are t).jump_tables in
        let same = ap (λ (x : Counts). x.jump_tables) ready.readied.kept.left in
        let is-left : n.jump_tables ≡ places.jump_tables - total jump_tables_at (rows_of t) = rw sum same in
        let long = ready.readied.kept.lends.jump_tables in
        let mine = own.jump_tables in
        let within : total jump_tables_at (rows_of t) ≤ places.jump_tables = omega arith in
        one-room jump_table_row places.jump_tables _ k.jump_tables n.jump_tables t.lists.jump_tables long is-left few.jump_tables within (omega arith)

    inline_tables-room : has_room inline_table_row (total inline_tables_at (rows_of t)) k.inline_tables t.lists.inline_tables ≡ true
    unfolding left
    inline_tables-room =
        let sum = (totals-are t).inline_tables in
        let same = ap (λ (x : Counts). x.inline_tables) ready.readied.kept.left in
        let is-left : n.inline_tables ≡ places.inline_tables - total inline_tables_at (rows_of t) = rw sum same in
        let long = ready.readied.kept.lends.inline_tables in
        let mine = own.inline_tables in
        let within : total inline_tables_at (rows_of t) ≤ places.inline_tables = omega arith in
        one-room inline_table_row places.inline_tables _ k.inline_tables n.inline_tables t.lists.inline_tables long is-left few.inline_tables within (omega arith)

    calls-room : has_room call_row (total calls_at (rows_of t)) k.calls t.lists.calls ≡ true
    unfolding left
    calls-room =
        let sum = (totals-are t).calls in
        let same = ap (λ (x : Counts). x.calls) ready.readied.kept.left in
        let is-left : n.calls ≡ places.calls - total calls_at (rows_of t) = rw sum same in
        let long = ready.readied.kept.lends.calls in
        let mine = own.calls in
        let within : total calls_at (rows_of t) ≤ places.calls = omega arith in
        one-room call_row places.calls _ k.calls n.calls t.lists.calls long is-left few.calls within (omega arith)

    has-all : has_places (used t) k t ≡ true
    unfolding has_places
    has-all =
        both-are _ _ (le-leb _ _ ready.readied.row)
        (both-are _ _ labels-room (both-are _ _ pools-room (both-are _ _ jump_tables-room (both-are _ _ inline_tables-room calls-room))))

    pub not-refused : answer r k a.lists t ≡ Ok tt
    unfolding answer checked
    not-refused = rw (is-next, has-all)

    passed : Passed r.first_instruction k a.lists t
    passed = next-passed r.first_instruction k a.lists t is-next has-all

    abbrev m : Maps
    m = maps_in k a.lists

    abbrev after : Lent
    after = appended r k m t

    put-long : (stride others count : ℕ) (list : List ℕ) (entries : List (List ℕ)) → length (flat entries) ≡ count * stride → (others + count) * stride ≤ length list
        → length (put list (others * stride) (flat entries)) ≡ length list
    put-long stride others count list entries wide room =
        let split : (others + count) * stride ≡ others * stride + count * stride = add-mul others count stride in
        put-length list (others * stride) (flat entries) (omega (arith, wide, split, room))

    after-lends : Lends after
    unfolding appended
    after-lends =
        let h = leaves.held in
        let q = passed-room r.first_instruction k a.lists t passed in
        let lends = ready.readied.kept.lends in
        record {
          labels = put-long label_row _ k.labels t.lists.labels m.labels (held-flat h.labels) q.labels.room ∙ lends.labels;
          pools = put-long pool_row _ k.pools t.lists.pools m.pools (held-flat h.pools) q.pools.room ∙ lends.pools;
          jump_tables = put-long jump_table_row _ k.jump_tables t.lists.jump_tables m.jump_tables (held-flat h.jump_tables) q.jump_tables.room ∙ lends.jump_tables;
          inline_tables = put-long inline_table_row _ k.inline_tables t.lists.inline_tables m.inline_tables (held-flat h.inline_tables) q.inline_tables.room ∙ lends.inline_tables;
          calls = put-long call_row _ k.calls t.lists.calls m.calls (held-flat h.calls) q.calls.room ∙ lends.calls;
        }

    after-long : length after.functions ≡ length t.functions
    unfolding appended row_of
    after-long = put-length t.functions (t.count * function_row) (row_of r k) (omega (arith, passed-row r.first_instruction k a.lists t passed))

    after-count : after.count ≡ t.count + 1
    unfolding appended
    after-count = refl

    after-next : (s : ℕ) → start < s → is_above s (last_of (rows_of after)) ≡ true
    unfolding appended row_of
    after-next s h =
        rw (rows-after r.first_instruction r k a.lists t passed, last-more (rows_of t) (row_of r k)) (lt-ltb r.first_instruction s (omega (arith, begins)))

    found-table : (found_at o code start (table_of t)).table ≡ table_of t ++ (function_of r m ∷ [])
    found-table =
        ap (λ (f : Found). f.table) found-here
        ∙ ap (λ (x : After). (taken start x (table_of t)).table) (sym is)
        ∙ ap (λ (x : Answer). (taken_by start x a (table_of t)).table) accepted

    pub found-lines : (found_at o code start (table_of t)).lines ≡ []
    found-lines =
        ap (λ (f : Found). f.lines) found-here
        ∙ ap (λ (x : After). (taken start x (table_of t)).lines) (sym is)
        ∙ ap (λ (x : Answer). (taken_by start x a (table_of t)).lines) accepted

    -- the append, which is not refused
    module _ (result : Result (Unit {0}) Refusal) (b : Lent) (appends : Appended r k a.lists t result b) where
      done : result ≡ Ok tt
      done = appends.says ∙ not-refused

      pub never-refused : is_err result ≡ true → ⊥
      never-refused e = false≢true (rw done at e)

      pub takes : Took o code start t b (without n k)
      takes =
          let moved : b ≡ after = appends.leaves ∙ (rw done) in
          let table : table_of b ≡ table_of t ++ (function_of r m ∷ []) = appends.holds ∙ (rw done) in
          record {
            table = table ∙ sym found-table;
            kept = record {
              lends = rw moved after-lends;
              sound = rw moved (kept r k a.lists t ready.readied.kept.sound not-refused);
              left = ap (λ (x : Counts). without x k) ready.readied.kept.left ∙ left-less (table_of t) r k a.lists ∙ ap left (sym table);
            };
            functions = rw moved after-long;
            count = rw (moved, after-count) (omega arith);
            next = rw moved after-next;
          }

-- ---- the code's walk

module _ (o : Options) (code : List ℕ) (start : ℕ) (l : Lists) (t : Lent) (n : Counts) (ready : Ready l t n start) (starts : List ℕ) (alone : starts ≡ []) (k : Counts)
    (zero : k ≡ counts_of no_maps) (ran : Answered) (m : Lists) (called : Called ran m (run o code starts start k l)) where
  abbrev pub left-by : After
  left-by = record { walk = ran.walk; lists = m; answer = ran.answer }

  pub is-run : left-by ≡ run o code [] start (counts_of no_maps) l
  is-run =
      let same : left-by ≡ run o code starts start k l = rw (called.walks, called.answers, called.holds) in
      same ∙ ap (λ (s : List ℕ). run o code s start k l) alone ∙ ap (λ (x : Counts). run o code [] start x l) zero

  -- one that is not accepted
  pub found-by : found_at o code start (table_of t) ≡ taken_by start ran.answer left-by (table_of t)
  found-by = found-here o code start l t n ready ∙ ap (λ (x : After). taken start x (table_of t)) (sym is-run)

  -- one that is accepted
  module _ (r : Record) (accepted : ran.answer ≡ Accepted r) where
    pub accepted-few : Within ran.walk.counts n
    accepted-few = few o code start l t n ready left-by is-run r accepted

    pub accepted-line : (found_at o code start (table_of t)).lines ≡ []
    accepted-line = found-lines o code start l t n ready left-by is-run r accepted

    module _ (result : Result (Unit {0}) Refusal) (b : Lent) (appends : Appended r ran.walk.counts m t result b) where
      pub accepted-takes : Took o code start t b (without n ran.walk.counts)
      accepted-takes = takes o code start l t n ready left-by is-run r accepted result b appends

      pub accepted-never : true ≡ is_err result → ⊥
      accepted-never e = never-refused o code start l t n ready left-by is-run r accepted result b appends (sym e)

  -- one that is not
  module _ (x : Answer) (is : ran.answer ≡ x) where
    pub answered : found_at o code start (table_of t) ≡ taken_by start x left-by (table_of t)
    answered = found-by ∙ ap (λ (y : Answer). taken_by start y left-by (table_of t)) is

    pub refused-takes : (taken_by start x left-by (table_of t)).table ≡ table_of t → Took o code start t t n
    refused-takes e = stays o code start l t n ready (ap (λ (f : Found). f.table) answered ∙ e)

    pub refused-line : (found_at o code start (table_of t)).lines ≡ (taken_by start x left-by (table_of t)).lines
    refused-line = ap (λ (f : Found). f.lines) answered
