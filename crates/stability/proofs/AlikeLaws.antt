-- Two contexts that differ in their code, in the values of their pools and in the values in registers alone; and what a block comes to on
-- both.
-- Assumes nothing.
use Rattle.base.proofs.Prelude.{refl, ◌≡◌, true, false, Bool, List, ◌≤◌, ℕ, ◌+◌, ◌<◌, ◌-◌, length}
use Rattle.base.specs.Choice.{pick}
use Rattle.base.specs.declared.refusal.Refusal.{Refusal}
use Rattle.base.specs.declared.refusal.Refusal.TheVariants.{PoolOutside}
use Rattle.context.specs.Context.{Given, Context, Step, on, goes, ends, refuses, ◌▸◌, pools_to}
use Rattle.stability.proofs.PairLaws.{Paired}

-- another code
abbrev pub code_to : List ℕ → Given → Given
code_to code g = record { options = g.options; places = g.places; code = code; starts = g.starts }

-- another code, other pools, and other values in registers
abbrev pub recoded : Given → List (List ℕ) → List ℕ → Context → Context
recoded g pools values x = record {
  given = g;
  next = x.next;
  progress = x.progress;
  machines = x.machines;
  registers = record { values = values; sources = x.registers.sources };
  maps = pools_to pools x.maps;
}

-- steps at the address a, on the codes c and d
module _ (g : Given) (c d : List ℕ) (a : ℕ) where
  -- the pools of both, and the values in registers
  pub record Twins : Type 0 where
    pub pools : List (List ℕ)
    pub others : List (List ℕ)
    pub values : List ℕ
    pub other_values : List ℕ
    pub paired : Paired c d g.options.base pools others

  abbrev pub first : Twins → Context → Context
  first t x = recoded (code_to c g) t.pools t.values x

  abbrev pub second : Twins → Context → Context
  second t x = recoded (code_to d g) t.others t.other_values x

  -- up to its end a step stays at its address, and the last pool lies in the first code
  pub record Within (address last_pool : ℕ) : Type 0 where
    pub at : address ≡ a
    pub last : last_pool ≤ g.options.base + length c - 4

  abbrev pub Stays : Context → Type 0
  Stays x = Within x.progress.address x.progress.last_pool_address

  -- the same step; but where the second code is longer, it may have a pool's word that the first lacks
  pub data Alike : Step → Step → Type 0 where
    both-on : (x : Context) (t : Twins) → Stays x → Alike (on (first t x)) (on (second t x))
    both_go : (x : Context) (t : Twins) → Alike (goes (first t x)) (goes (second t x))
    both_end : (end : ℕ) (x : Context) (t : Twins) → Alike (ends end (first t x)) (ends end (second t x))
    both-refuse : (n : Refusal) (r : ℕ) → Alike (refuses n r) (refuses n r)
    first-lacks : {s : Step} → length c < length d → Alike (refuses PoolOutside 0) s

  -- a block comes to the same on both
  abbrev pub Blind : (Context → Step) → Type 0
  Blind f = (x : Context) (t : Twins) → Stays x → Alike (f (first t x)) (f (second t x))

module _ {g : Given} {c d : List ℕ} {a : ℕ} where
  -- one block after another
  pub then-alike : (f : Context → Step) {s t : Step} → Alike g c d a s t → Blind g c d a f → Alike g c d a (s ▸ f) (t ▸ f)
  then-alike f (both-on x t s) b = b x t s
  then-alike f (both_go x t) b = both_go x t
  then-alike f (both_end end x t) b = both_end end x t
  then-alike f (both-refuse n r) b = both-refuse n r
  then-alike f (first-lacks h) b = first-lacks h

  -- both choose by the same test
  pub pick-told : {s s' t t' : Step} (b : Bool) → (b ≡ true → Alike g c d a s s') → Alike g c d a t t' → Alike g c d a (pick b s t) (pick b s' t')
  pick-told true x y = x refl
  pick-told false x y = y

  pub pick-alike : {s s' t t' : Step} (b : Bool) → Alike g c d a s s' → Alike g c d a t t' → Alike g c d a (pick b s t) (pick b s' t')
  pick-alike b x y = pick-told b (λ _. x) y
