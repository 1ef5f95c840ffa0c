-- What the code of a turn comes to: the walk after it, and the lists.
-- Assumes nothing.
use Rattle.base.proofs.Prelude.{◌∙◌, refl, ◌≡◌, ap, false, true, Bool, List, [], ◌≤◌, ℕ, ◌+◌, ◌<◌, ◌-◌, ◌^◌, arith, ltb, length, drop}
use Rattle.base.proofs.Prelude.{length-drop, length-replicate, ltb-false}
use lib.Dec.{lit<}
use Rattle.arm.specs.declared.Ins.{Ins}
use Rattle.arm.specs.Ins.{decode_of}
use Rattle.std.specs.Prelude.{Some, None}
use Rattle.base.specs.declared.refusal.Refusal.TheVariants.{NoEpilogue}
use Rattle.base.specs.Words.{word_from, first_word}
use Rattle.context.specs.declared.State.{State}
use Rattle.context.specs.declared.Handled.{Handled}
use Rattle.context.specs.declared.Module.{Module}
use Rattle.context.specs.declared.Then.{Then}
use Rattle.context.specs.declared.Then.TheVariants.{On, Goes, Ends, Refuses}
use Rattle.context.specs.Blocks.{handle_ins}
use Rattle.context.specs.Context.{Given, Maps, call_row, label_row, pool_row, table_row, saving, counting, moving}
use Rattle.context.specs.Lists.{Lists, AllHeld, maps_in, written, zeroed, given_to}
use Rattle.context.specs.State.{read, progressed}
use Rattle.context.specs.Turn.{Turned, turn, context_at, saved_first, settled, closed, counts_of, no_maps, key_or0, bytes_to_end, arm_size}
use Rattle.registers.specs.declared.Registers.{Registers}
use Rattle.rows.specs.Map.{map_in, encode, Held, first_key}
use Rattle.rows.proofs.MapLaws.{map-length, zeros-held}
use Rattle.walk.specs.declared.Answer.{Answer}
use Rattle.walk.specs.declared.Answer.TheVariants.{Going, Accepted, Refused}
use Rattle.walk.specs.declared.Counts.{Counts}
use Rattle.walk.specs.declared.Options.{Options}
use Rattle.walk.specs.declared.Walk.{Walk}
use Rattle.outcome.specs.Outcome.{state_of, walk_in, with_counts, refused_walk, record_at, settles, is_refused}
use Rattle.lists.proofs.Laws.{same_lists, zeros-encode}
use Rattle.handle_ins.specs.Handles.{context_in, Handles}
use Rattle.turn.specs.Turning.{left, Looks, Turns}

-- ---- the walk after a step

module _ (g : Given) (w : Walk) (m : Maps) (l : Lists) where
  closes : (answer : Answer) (h : Registers) (s : State) → left (walk_in answer h s) l ≡ closed answer (context_in g h s l)
  closes Going h s = simp map-length
  closes (Accepted r) h s = simp map-length
  closes (Refused n a r) h s = refl

  settles-left : (t : Then) (h : Registers) (s : State)
      → left (settles g.options w (key_or0 (first_key (map_in pool_row s.counts.pools l.pools))) t h s) l ≡ settled (context_at g w m) (read t (context_in g h s l))
  settles-left On h s = closes Going h s
  settles-left Goes h s = closes Going h s
  settles-left (Ends end) h s =
      let answer = record_at g.options (key_or0 (first_key (map_in pool_row s.counts.pools l.pools))) end s.progress in
      closes answer h (progressed (counting (bytes_to_end answer end w.progress) (moving end s.progress.previous s.progress)) s)
  settles-left (Refuses n r) h s = refl

settles-counts : (o : Options) (w : Walk) (pool : ℕ) (t : Then) (h : Registers) (s : State) → (settles o w pool t h s).counts ≡ s.counts
settles-counts o w pool On h s = refl
settles-counts o w pool Goes h s = refl
settles-counts o w pool (Ends end) h s = refl
settles-counts o w pool (Refuses n r) h s = refl

-- the state that handle_ins gets
abbrev pub readied : Ins → Walk → State
readied i w = progressed (saving (saved_first i w.progress) w.progress) (state_of w)

module _ (given : Module) (w : Walk) (before : Lists) where
  pub looks-settled : {after : Lists} {r : Handled} {x : Walk} {word : ℕ} → word_from given.code.now given.options.base w.progress.address ≡ Some word
      → Handles (given_to given before) r before after
      (handle_ins (decode_of word w.progress.address) word arm_size
      (context_in (given_to given before) w.registers (readied (decode_of word w.progress.address) w) before))
      → x ≡ settles given.options w (key_or0 (first_key (map_in pool_row r.stepped.state.counts.pools after.pools))) r.stepped.then r.registers r.stepped.state
      → Looks x before after (turn (given_to given before) w (maps_in w.counts before))
  unfolding turn
  looks-settled {after} {r} e h is = rw is (record {
    held = rw (settles-counts given.options w (key_or0 (first_key (map_in pool_row r.stepped.state.counts.pools after.pools))) r.stepped.then r.registers r.stepped.state) h.held;
    places = h.places;
    says = rw e (settles-left (given_to given before) w (maps_in w.counts before) after r.stepped.then r.registers r.stepped.state
        ∙ ap (settled (context_at (given_to given before) w (maps_in w.counts before))) h.says);
  })

  pub looks-missing : {x : Walk} → word_from given.code.now given.options.base w.progress.address ≡ None → AllHeld w.counts before
      → x ≡ refused_walk w w.counts NoEpilogue 0 0 → Looks x before before (turn (given_to given before) w (maps_in w.counts before))
  unfolding turn
  looks-missing e h is = rw is (record { held = h; places = refl; says = rw e })

-- a word in the code is not at the end of 32 bits
pub word_fits : (code : List ℕ) (base a word : ℕ) → word_from code base a ≡ Some word → base + length code ≤ 0x0300_0000 → a + 4 < 2 ^ 32
unfolding word_from first_word
word_fits code base a word e fits = step (ltb a base) (ltb (length code) (a - base)) (ltb (length (drop (a - base) code)) 4) refl refl refl
  where
    step : (b c d : Bool) → ltb a base ≡ b → ltb (length code) (a - base) ≡ c → ltb (length (drop (a - base) code)) 4 ≡ d → a + 4 < 2 ^ 32
    step true c d p q r = absurd (let z : ◌≡◌ {A = ℕ} 0 1 = cc (rw p at e) in omega arith)
    step false true d p q r = absurd (let z : ◌≡◌ {A = ℕ} 0 1 = cc (rw (p, q) at e) in omega arith)
    step false false true p q r = absurd (let z : ◌≡◌ {A = ℕ} 0 1 = cc (rw (p, q, r) at e) in omega arith)
    step false false false p q r =
        let above = ltb-false a base p in
        let within = ltb-false (length code) (a - base) q in
        let four = ltb-false (length (drop (a - base) code)) 4 r in
        omega (arith, length-drop (a - base) code)

-- ---- the lists after a turn

zero_held : (k n : ℕ) → 0 < k → Held k 0 (encode n [])
zero_held k n h = rw (← zeros-encode n) (zeros-held k n h)

zero-long : (n : ℕ) → length (encode n []) ≡ n
zero-long n = rw (← zeros-encode n) (length-replicate n 0)

module _ {x : Walk} {before mid : Lists} {t : Turned} (h : Looks x before mid t) where
  pub turns-on : is_refused x.result ≡ false → Turns x before mid t
  turns-on e =
      let says = rw e at h.says in
      record { walks = ap (λ (t : Turned). t.walk) says; held = h.held; places = h.places; maps = ap (λ (t : Turned). t.maps) says }

  pub turns-cleared : {r : Walk} {after : Lists} → is_refused x.result ≡ true → r ≡ with_counts (counts_of no_maps) x → after ≡ zeroed mid
      → Turns r before after t
  unfolding map_in
  turns-cleared e is zero =
      let says = rw e at h.says in
      rw (is, zero) (record {
        walks = ap (λ (t : Turned). t.walk) says;
        held = record {
          labels = zero_held label_row (length mid.labels) (lit< tt);
          pools = zero_held pool_row (length mid.pools) (lit< tt);
          jump_tables = zero_held table_row (length mid.jump_tables) (lit< tt);
          inline_tables = zero_held table_row (length mid.inline_tables) (lit< tt);
          calls = zero_held call_row (length mid.calls) (lit< tt);
        };
        places = rw (zero-long (length mid.labels), zero-long (length mid.pools), zero-long (length mid.jump_tables), zero-long (length mid.inline_tables), zero-long (length mid.calls)) h.places;
        maps = ap (λ (t : Turned). t.maps) says;
      })

encoded : {k n places : ℕ} {list : List ℕ} {m : List (List ℕ)} → Held k n list → length list ≡ places → map_in k n list ≡ m → list ≡ encode places m
encoded {list} h long is = h.holds ∙ rw (long, is)

-- a turn leaves its maps in the lists, and zeros after them
pub turns-written : {r : Walk} {before after : Lists} {t : Turned} → Turns r before after t → after ≡ written before t.maps
turns-written h =
    same_lists
    (encoded h.held.labels (ap (λ (n : Counts). n.labels) h.places) (ap (λ (m : Maps). m.labels) h.maps))
    (encoded h.held.pools (ap (λ (n : Counts). n.pools) h.places) (ap (λ (m : Maps). m.pools) h.maps))
    (encoded h.held.jump_tables (ap (λ (n : Counts). n.jump_tables) h.places) (ap (λ (m : Maps). m.jump_tables) h.maps))
    (encoded h.held.inline_tables (ap (λ (n : Counts). n.inline_tables) h.places) (ap (λ (m : Maps). m.inline_tables) h.maps))
    (encoded h.held.calls (ap (λ (n : Counts). n.calls) h.places) (ap (λ (m : Maps). m.calls) h.maps))
