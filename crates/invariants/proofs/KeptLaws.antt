-- What the checks ask for holds again after a turn that goes on; and after any turn the lists hold its maps.
-- Assumes nothing.
use Rattle.base.proofs.Prelude.{refl, ◌≡◌, ap, true, List, [], ℕ, ◌<◌, arith, zero-mul, leb, length, leb-true}
use Rattle.std.specs.Prelude.{Ok}
use Rattle.arm.specs.Ins.{decode_of}
use Rattle.std.specs.Prelude.{Option, Some, None}
use Rattle.base.specs.Words.{word_from}
use Rattle.context.specs.Context.{Maps, Given, Context, Step, label_row, pool_row, table_row, call_row}
use Rattle.context.specs.Lists.{Lists, AllHeld, maps_in, written, zeroed, places_of, given_by}
use Rattle.context.specs.Turn.{Turned, no_maps, counts_of, context_at, closed, function_of, ending_at, settled, with_saved, turn_at, turn, arm_size}
use Rattle.rows.specs.Order.{ascending}
use Rattle.rows.specs.Map.{Held, encode, map_in, last_key}
use Rattle.rows.proofs.MapLaws.{held-map, map-length, encode-map, encode-held, encode-length}
use Rattle.base.proofs.ChoiceLaws.{both_first}
use Rattle.stepper.specs.Stepper.{is_going, check_at, turned}
use Rattle.validity.specs.Validity.{is_in_code, are_whole, are_held}
use Rattle.walk.specs.declared.Answer.{Answer}
use Rattle.walk.specs.declared.Answer.TheVariants.{Going, Accepted, Refused}
use Rattle.walk.specs.declared.Counts.{Counts}
use Rattle.walk.specs.declared.Options.{Options}
use Rattle.walk.specs.declared.Walk.{Walk}
use Rattle.walk.specs.IntoFunction.{begun}
use Rattle.invariants.proofs.BytesLaws.{turn-start, turn-within}
use Rattle.invariants.proofs.BlockLaws.{Meets, is-on, has-gone, has_ended, is-refused, gone}
use Rattle.invariants.proofs.CheckLaws.{Begins, Passed, number_passed, passed-number}
use Rattle.invariants.proofs.TurnLaws.{turn-onward, turn-past, turn-counts}
use Rattle.invariants.proofs.SoundLaws.{Fit, AllFit, Sound, Same, step_same, step-sound}

-- ---- maps that fit, and the lists that they are written to

module _ {k places : ℕ} {m : List (List ℕ)} (s : 0 < k) (f : Fit k places m) where
  fit-held : Held k (length m) (encode places m)
  fit-held = (encode-held m s f.is f.room refl refl).0

  fit_length : length (encode places m) ≡ places
  fit_length = encode-length k places m f.is.wide f.room

held-fit : {k n : ℕ} {list : List ℕ} → Held k n list → Fit k (length list) (map_in k n list)
held-fit {k} {n} {list} h = record { is = held-map h; room = rw (map-length k n list) h.fits }

none-fit : (k places : ℕ) → Fit k places []
unfolding ascending
none-fit k places = record { is = record { wide = tt; rises = refl }; room = omega (arith, zero-mul k) }

pub none-fits : (places : Counts) → AllFit places no_maps
none-fits n = record {
  labels = none-fit label_row n.labels;
  pools = none-fit pool_row n.pools;
  jump_tables = none-fit table_row n.jump_tables;
  inline_tables = none-fit table_row n.inline_tables;
  calls = none-fit call_row n.calls;
}

module _ (l : Lists) (m : Maps) (f : AllFit (places_of l) m) where
  pub written_held : AllHeld (counts_of m) (written l m)
  written_held = record {
    labels = fit-held (omega arith) f.labels;
    pools = fit-held (omega arith) f.pools;
    jump_tables = fit-held (omega arith) f.jump_tables;
    inline_tables = fit-held (omega arith) f.inline_tables;
    calls = fit-held (omega arith) f.calls;
  }

  pub written-maps : maps_in (counts_of m) (written l m) ≡ m
  written-maps =
      rw (
        encode-map label_row (length l.labels) m.labels f.labels.is.wide,
        encode-map pool_row (length l.pools) m.pools f.pools.is.wide,
        encode-map table_row (length l.jump_tables) m.jump_tables f.jump_tables.is.wide,
        encode-map table_row (length l.inline_tables) m.inline_tables f.inline_tables.is.wide,
        encode-map call_row (length l.calls) m.calls f.calls.is.wide,
      )

  pub written-places : places_of (written l m) ≡ places_of l
  written-places =
      rw (
        fit_length (omega arith) f.labels,
        fit_length (omega arith) f.pools,
        fit_length (omega arith) f.jump_tables,
        fit_length (omega arith) f.inline_tables,
        fit_length (omega arith) f.calls,
      )

held_fits : (n : Counts) (l : Lists) → AllHeld n l → AllFit (places_of l) (maps_in n l)
held_fits n l h = record {
  labels = held-fit h.labels;
  pools = held-fit h.pools;
  jump_tables = held-fit h.jump_tables;
  inline_tables = held-fit h.inline_tables;
  calls = held-fit h.calls;
}

-- ---- a turn

closed-fits : (places : Counts) (a : Answer) (c : Context) → AllFit places c.maps → AllFit places (closed a c).maps
closed-fits places Going c f = f
closed-fits places (Accepted r) c f = f
closed-fits places (Refused n x r) c f = none-fits places

module _ (g : Given) (w : Walk) (m : Maps) where
  abbrev before : Context
  before = context_at g w m

  abbrev IsSame : ℕ → Context → Type 0
  IsSame saved d = Same g w.progress.start saved d

  settled-fits : {s : Step} {saved : ℕ} → Meets (λ _. ⊥) Sound (λ e d. Sound d) s → Meets (λ _. ⊥) (IsSame saved) (λ e d. IsSame saved d) s
      → AllFit g.places (settled before s).maps
  settled-fits (is-on q) k = absurd q
  settled-fits (has-gone q) (has-gone k) = rw (ap (λ (x : Given). x.places) k.0) at q.0
  settled-fits (has_ended {a = e} {c = c} q) (has_ended k) =
      closed-fits g.places (function_of e c) (ending_at before e c) (rw (ap (λ (x : Given). x.places) k.0) at q.0)
  settled-fits is-refused k = none-fits g.places

  word_fits : Sound before → (x : Option ℕ) → AllFit g.places (turn_at x before).maps
  word_fits p (Some word) =
      let i = decode_of word w.progress.address in
      settled-fits (step-sound i word arm_size (with_saved i before) p) (step_same i word arm_size (with_saved i before))
  word_fits p None = none-fits g.places

  -- any turn leaves maps that fit
  pub sound-fits : Sound (context_at g w m) → AllFit g.places (turn g w m).maps
  unfolding turn
  sound-fits p = word_fits p (word_from g.code g.options.base w.progress.address)

  -- one that goes on keeps what check 4 asks of the pools
  pub sound-kept : Sound (context_at g w m) → is_going (turn g w m).walk.result ≡ true → Sound (context_at g (turn g w m).walk (turn g w m).maps)
  sound-kept p h =
      let t = turn-onward g w m h in
      let i = decode_of t.word w.progress.address in
      let k = gone t.to (step_same i t.word arm_size (with_saved i before)) t.step in
      rw t.is (rw k.0 at (gone t.to (step-sound i t.word arm_size (with_saved i before) p) t.step))

-- ---- a turn from a walk that passes the checks

module _ (o : Options) (code starts : List ℕ) (w : Walk) (l : Lists) (p : Passed o code starts w l) where
  abbrev given : Given
  given = given_by o code starts l

  abbrev maps : Maps
  maps = maps_in w.counts l

  abbrev after : Turned
  after = turn given w maps

  pub passed-sound : Sound (context_at (given_by o code starts l) w (maps_in w.counts l))
  passed-sound = (held_fits w.counts l p.lists, record { whole = p.whole; is_last = p.last; are-held = p.held })

  pub turn-fits : AllFit (places_of l) (turn (given_by o code starts l) w (maps_in w.counts l)).maps
  turn-fits = sound-fits given w maps passed-sound

  pub turn-passed : is_going (turn (given_by o code starts l) w (maps_in w.counts l)).walk.result ≡ true
      → Passed o code starts after.walk (written l after.maps)
  turn-passed h =
      let start = turn-start given w maps in
      let sound = sound-kept given w maps passed-sound h in
      let counts = turn-counts given w maps in
      let pools = encode-map pool_row (length l.pools) after.maps.pools turn-fits.pools.is.wide in
      let past = turn-past given w maps h in
      let base = p.above in
      record {
        window = p.window;
        start = rw start p.start;
        above = omega arith;
        aligned = rw start p.aligned;
        ascends = p.ascends;
        bytes = turn-within given w maps p.bytes;
        lists = rw counts (written_held l after.maps turn-fits);
        whole = rw (counts, pools) sound.1.whole;
        last = rw (counts, pools) sound.1.is_last;
        held = rw (counts, pools) sound.1.are-held;
      }

-- ---- the same by the check

module _ (o : Options) (code starts : List ℕ) (w : Walk) (l : Lists) (number : check_at o code starts w l ≡ Ok tt) where
  abbrev here : Turned
  here = turn (given_by o code starts l) w (maps_in w.counts l)

  passed : Passed o code starts w l
  passed = number_passed o code starts w l number

  fit : AllFit (places_of l) here.maps
  fit = turn-fits o code starts w l passed

  -- a turn that goes on leaves what passes the checks again
  pub turn-kept : is_going here.walk.result ≡ true → check_at o code starts (turned l here).walk (turned l here).lists ≡ Ok tt
  turn-kept h = passed-number o code starts here.walk (written l here.maps) (turn-passed o code starts w l passed h)

  -- any turn leaves lists that hold its maps, and have their places
  pub turn-held : AllHeld (counts_of here.maps) (written l here.maps) × (maps_in (counts_of here.maps) (written l here.maps) ≡ here.maps)
  turn-held = (written_held l here.maps fit, written-maps l here.maps fit)

  pub turn-places : places_of (written l here.maps) ≡ places_of l
  turn-places = written-places l here.maps fit

-- ---- a begin that passed leaves a walk that passes

pub begun-passed : (o : Options) (a : ℕ) (code starts : List ℕ) (l : Lists) → Begins o a code starts
    → Passed o code starts (begun a (counts_of no_maps)) (zeroed l)
unfolding begun map_in are_whole are_held last_key is_in_code
begun-passed o a code starts l b = record {
  window = b.window;
  start = b.start;
  above = leb-true o.base a (both_first (leb o.base a) _ b.start);
  aligned = b.aligned;
  ascends = b.ascends;
  bytes = omega arith;
  lists = written_held l no_maps (none-fits (places_of l));
  whole = refl;
  last = refl;
  held = refl;
}
