-- A turn: one that goes on has found a word, and its step went on; what it leaves is counted.
-- Assumes nothing.
use Rattle.base.proofs.Prelude.{◌∙◌, refl, ◌≡◌, ap, true, false, Bool, ℕ, ◌<◌, arith, ltb}
use Rattle.base.specs.declared.refusal.Refusal.TheVariants.{NoEpilogue}
use Rattle.arm.specs.Ins.{decode_of}
use Rattle.std.specs.Prelude.{Option, Some, None}
use Rattle.base.specs.Choice.{pick}
use Rattle.base.specs.Words.{word_from}
use Rattle.context.specs.Context.{Maps, Given, Context, Step, on, goes, ends, refuses}
use Rattle.context.specs.Turn.{counts_of, context_at, walk_of, closed, function_of, ending_at, settled, with_saved, step_of, turn_at, turn, arm_size}
use Rattle.stepper.specs.Stepper.{is_going}
use Rattle.walk.specs.declared.Answer.{Answer}
use Rattle.walk.specs.declared.Answer.TheVariants.{Going, Accepted, Refused}
use Rattle.walk.specs.declared.Walk.{Walk}
use Rattle.walk.specs.IntoFunction.{into_function, end_address}
use Rattle.invariants.proofs.BlockLaws.{never_on}
use Rattle.invariants.proofs.MoveLaws.{goes-past}

-- into_function ends the walk
pub function-ends : (end : ℕ) (c : Context) → is_going (function_of end c) ≡ false
unfolding into_function
function-ends end c =
    step (ltb c.given.options.module_end (end_address c.given.options.known_end end c.progress.last_pool_address)) _ refl
  where
    step : (b : Bool) (x : Answer) → is_going x ≡ false → is_going (pick b (Refused NoEpilogue 0 0) x) ≡ false
    step true x e = refl
    step false x e = e

pub closed-result : (a : Answer) (c : Context) → (closed a c).walk.result ≡ a
closed-result Going c = refl
closed-result (Accepted r) c = refl
closed-result (Refused n x r) c = refl

-- a turn that goes on: its word, and what its step went on with
pub record Onward (g : Given) (w : Walk) (m : Maps) : Type 0 where
  pub word : ℕ
  pub found : word_from g.code g.options.base w.progress.address ≡ Some word
  pub to : Context
  pub step : step_of (decode_of word w.progress.address) word (context_at g w m) ≡ goes to
  pub is : turn g w m ≡ walk_of Going to

module _ (g : Given) (w : Walk) (m : Maps) where
  abbrev before : Context
  before = context_at g w m

  pub turn-onward : is_going (turn g w m).walk.result ≡ true → Onward g w m
  unfolding turn
  turn-onward h = find (word_from g.code g.options.base w.progress.address) refl h
    where
      settle : (word : ℕ) → word_from g.code g.options.base w.progress.address ≡ Some word → (s : Step)
          → step_of (decode_of word w.progress.address) word before ≡ s → is_going (settled before s).walk.result ≡ true → Onward g w m
      settle word f (on c) e h = absurd (never_on (decode_of word w.progress.address) word arm_size (with_saved (decode_of word w.progress.address) before) c e)
      settle word f (goes c) e h = record {
        word = word;
        found = f;
        to = c;
        step = e;
        is = ap (λ (x : Option ℕ). turn_at x before) f ∙ ap (settled before) e;
      }
      settle word f (ends end c) e h =
          absurd
          (let r : is_going (function_of end c) ≡ false = function-ends end c in
          let same = closed-result (function_of end c) (ending_at before end c) in
          let z : ◌≡◌ {A = ℕ} 0 1 = cc in
          omega arith)
      settle word f (refuses n r) e h = absurd (let z : ◌≡◌ {A = ℕ} 0 1 = cc in omega arith)

      find : (x : Option ℕ) → word_from g.code g.options.base w.progress.address ≡ x → is_going (turn_at x before).walk.result ≡ true
          → Onward g w m
      find (Some word) f h = settle word f (step_of (decode_of word w.progress.address) word before) refl h
      find None f h = absurd (let z : ◌≡◌ {A = ℕ} 0 1 = cc in omega arith)

  -- it has moved on
  pub turn-past : is_going (turn g w m).walk.result ≡ true → w.progress.address < (turn g w m).walk.progress.address
  turn-past h =
      let t = turn-onward h in
      rw t.is (goes-past (decode_of t.word w.progress.address) t.word arm_size (with_saved (decode_of t.word w.progress.address) before) t.to (omega arith) t.step)

  -- ---- a turn counts its maps

  closed-counts : (a : Answer) (c : Context) → (closed a c).walk.counts ≡ counts_of (closed a c).maps
  closed-counts Going c = refl
  closed-counts (Accepted r) c = refl
  closed-counts (Refused n x r) c = refl

  settled-counts : (s : Step) → (settled before s).walk.counts ≡ counts_of (settled before s).maps
  settled-counts (on c) = refl
  settled-counts (goes c) = refl
  settled-counts (ends e c) = closed-counts (function_of e c) (ending_at before e c)
  settled-counts (refuses n r) = refl

  word_counts : (x : Option ℕ) → (turn_at x before).walk.counts ≡ counts_of (turn_at x before).maps
  word_counts (Some word) = settled-counts (step_of (decode_of word w.progress.address) word before)
  word_counts None = refl

  pub turn-counts : (turn g w m).walk.counts ≡ counts_of (turn g w m).maps
  unfolding turn
  turn-counts = word_counts (word_from g.code g.options.base w.progress.address)
