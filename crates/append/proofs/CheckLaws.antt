-- What the check asks for, test by test, and what one that passes has shown.
-- Assumes nothing.
use Rattle.base.proofs.Prelude.{◌∙◌, sym, refl, ◌≡◌, ap, true, false, Bool, List, ◌≤◌, ℕ, ◌+◌, ◌*◌, ◌/◌, ◌<◌, ◌^◌, arith, leb, length, leb-true, ltb-true, le-leb, leb-false}
use native.Mathlib.Nat.{le-div_iff_mul-le}
use Rattle.std.specs.Prelude.{Some, None, Result, Ok, Err}
use Rattle.base.proofs.ChoiceLaws.{both_true}
use Rattle.base.specs.Choice.{pick}
use Rattle.base.specs.declared.refusal.Refusal.{Refusal}
use Rattle.base.specs.declared.refusal.Refusal.TheVariants.{BadLists, NoRoom}
use Rattle.context.specs.Lists.{AllHeld, Lists as Walked}
use Rattle.lists.specs.Lists.{are_in_order}
use Rattle.table.specs.declared.Table.{Table}
use Rattle.table.specs.Held.{Rows, function_row, fits_lists, label_row, pool_row, jump_table_row, inline_table_row, call_row}
use Rattle.validity.proofs.Laws.{order-held}
use Rattle.walk.specs.declared.Counts.{Counts}
use Rattle.walk.specs.declared.Record.{Record}
use Rattle.append.specs.Append.{Lent, shared_by, rows_of, fits, is_above, last_of, is_next, totals, used, has_room, has_places, checked, answer, Appended, Few, Fits, Room}

-- so many rows fit a list exactly where they are no more than the list has rows
pub leb-rows : (n k len : ℕ) → 0 < k → leb n (len / k) ≡ leb (n * k) len
leb-rows n k len s = step (leb n (len / k)) refl
  where
    step : (t : Bool) → leb n (len / k) ≡ t → t ≡ leb (n * k) len
    step true e = sym (le-leb _ _ ((le-div_iff_mul-le {k = k} {x = n} {y = len} s).0 (leb-true _ _ e)))
    step false e =
        let over : len / k < n = leb-false _ _ e in
        sym (go (leb (n * k) len) refl over)
      where
        go : (u : Bool) → leb (n * k) len ≡ u → len / k < n → u ≡ false
        go true f over = absurd (let room : n ≤ len / k = (le-div_iff_mul-le {k = k} {x = n} {y = len} s).1 (leb-true _ _ f) in omega arith)
        go false f over = refl

module _ {A : Type 0} where
  pub some-picked : {a : A} (b : Bool) (v : A) → Some a ≡ pick b (Some v) None → (b ≡ true) × (a ≡ v)
  some-picked true v e = (refl, cc)
  some-picked false v e = absurd (let z : ◌≡◌ {A = ℕ} 0 1 = cc in omega arith)

  pub none-picked : (b : Bool) (v : A) → None ≡ pick b (Some v) None → b ≡ false
  none-picked true v e = absurd (let z : ◌≡◌ {A = ℕ} 0 1 = cc in omega arith)
  none-picked false v e = refl

-- the rows of the table, as it is read
pub rows-known : (a : Table) (rows : List (List ℕ)) (t : Lent) → shared_by a ≡ t → Rows a rows
    → (leb (t.count * function_row) (length t.functions) ≡ true) × (rows ≡ rows_of t)
rows-known a rows t e got = (
  ap (λ (x : Lent). leb (x.count * function_row) (length x.functions)) (sym e) ∙ le-leb _ _ got.fits,
  got.are ∙ ap rows_of e,
)

module _ (first : ℕ) (n : Counts) (l : Walked) (t : Lent) where
  pub check-short : leb (t.count * function_row) (length t.functions) ≡ false → Err BadLists ≡ checked first n l t
  unfolding checked is_next fits
  check-short e = rw e

  module _ (rows : List (List ℕ)) (known : (leb (t.count * function_row) (length t.functions) ≡ true) × (rows ≡ rows_of t)) where
    pub check-lists : fits_lists rows t.lists ≡ false → Err BadLists ≡ checked first n l t
    unfolding checked is_next fits
    check-lists e = rw (known.0, ← known.1, e)

    module _ (u : Counts) (fit : (fits_lists rows t.lists ≡ true) × (u ≡ totals rows)) where
      pub check-order : are_in_order n l ≡ false → Err BadLists ≡ checked first n l t
      unfolding checked is_next fits
      check-order e = rw (known.0, ← known.1, fit.0, e)

      module _ (order : are_in_order n l ≡ true) where
        pub check-above : is_above first (last_of rows) ≡ false → Err BadLists ≡ checked first n l t
        unfolding checked is_next fits
        check-above e = rw (known.0, ← known.1, fit.0, order, e)

        module _ (above : is_above first (last_of rows) ≡ true) where
          pub check-room : has_places u n t ≡ false → Err NoRoom ≡ checked first n l t
          unfolding checked is_next fits
          check-room e = rw (known.0, ← known.1, ← fit.1, fit.0, order, above, e)

          pub check-passed : has_places u n t ≡ true → Ok u ≡ checked first n l t
          unfolding checked is_next fits
          check-passed e = rw (known.0, ← known.1, ← fit.1, fit.0, order, above, e)

  -- ---- what an append that is refused comes to

  pub refused-appended : (r : Record) → r.first_instruction ≡ first → (e : Refusal) → Err e ≡ checked first n l t → Appended r n l t (Err e) t
  unfolding answer
  refused-appended r same e h = record { says = rw (same, ← h); leaves = refl; holds = refl }

  -- ---- a check that passed

  pub record Passed : Type 0 where
    pub room : t.count * function_row ≤ length t.functions
    pub lists : fits_lists (rows_of t) t.lists ≡ true
    pub order : are_in_order n l ≡ true
    pub above : is_above first (last_of (rows_of t)) ≡ true
    pub places : has_places (used t) n t ≡ true

  pub next-passed : is_next first n l t ≡ true → has_places (used t) n t ≡ true → Passed
  unfolding is_next fits
  next-passed h p =
      let a = both_true _ _ h in
      let b = both_true _ _ a.0 in
      let c = both_true _ _ a.1 in
      record { room = leb-true _ _ b.0; lists = b.1; order = c.0; above = c.1; places = p }

  pub ok-passed : (u : Counts) → Ok u ≡ checked first n l t → Passed × (u ≡ used t)
  unfolding checked
  ok-passed u = step (is_next first n l t) (has_places (used t) n t) refl refl
    where
      step : (a b : Bool) → is_next first n l t ≡ a → has_places (used t) n t ≡ b → ◌≡◌ {A = Result Counts Refusal} (Ok u) (pick a (pick b (Ok (used t)) (Err NoRoom)) (Err BadLists))
          → Passed × (u ≡ used t)
      step true true e f g = (next-passed e f, cc)
      step true false e f g = absurd (let z : ◌≡◌ {A = ℕ} 0 1 = cc in omega arith)
      step false b e f g = absurd (let z : ◌≡◌ {A = ℕ} 0 1 = cc in omega arith)

  room-fits : (stride others m : ℕ) (from to : List ℕ) → m * stride ≤ length from → has_room stride others m to ≡ true
      → (m < 2 ^ 32) × Fits stride others m from to
  unfolding has_room
  room-fits stride others m from to held h =
      let a = both_true _ _ h in
      (ltb-true _ _ a.0, record { held = held; room = leb-true _ _ a.1 })

  module _ (p : Passed) where
    pub passed-held : AllHeld n l
    passed-held = order-held n l p.order

    places : (Few n) × (Room (used t) n l t.lists) × ((t.count + 1) * function_row ≤ length t.functions)
    unfolding has_places
    places =
        let a = both_true _ _ p.places in
        let b = both_true _ _ a.1 in
        let c = both_true _ _ b.1 in
        let d = both_true _ _ c.1 in
        let e = both_true _ _ d.1 in
        let h = passed-held in
        let labels = room-fits label_row _ n.labels l.labels t.lists.labels h.labels.fits b.0 in
        let pools = room-fits pool_row _ n.pools l.pools t.lists.pools h.pools.fits c.0 in
        let jumps = room-fits jump_table_row _ n.jump_tables l.jump_tables t.lists.jump_tables h.jump_tables.fits d.0 in
        let inlines = room-fits inline_table_row _ n.inline_tables l.inline_tables t.lists.inline_tables h.inline_tables.fits e.0 in
        let calls = room-fits call_row _ n.calls l.calls t.lists.calls h.calls.fits e.1 in (
          record { labels = labels.0; pools = pools.0; jump_tables = jumps.0; inline_tables = inlines.0; calls = calls.0 },
          record { labels = labels.1; pools = pools.1; jump_tables = jumps.1; inline_tables = inlines.1; calls = calls.1 },
          leb-true _ _ a.0,
        )

    pub passed-few : Few n
    passed-few = places.0

    pub passed-room : Room (used t) n l t.lists
    passed-room = places.1

    pub passed-row : (t.count + 1) * function_row ≤ length t.functions
    passed-row = places.2
