-- Demand 3: from one turn to runs.
-- Assumes nothing.
use Rattle.base.proofs.Prelude.{◌∙◌, sym, refl, ◌≡◌, true, false, List, [], ◌∷◌, ◌≤◌, ℕ, ◌+◌, arith, length}
use Rattle.context.specs.Lists.{Lists, maps_in, written, zeroed, places_of, given_by}
use Rattle.context.specs.Turn.{no_maps, counts_of}
use Rattle.stepper.specs.Stepper.{After, is_going, begin, turned, unchanged, step, finish}
use Rattle.walk.specs.declared.Answer.{Answer}
use Rattle.walk.specs.declared.Answer.TheVariants.{Going}
use Rattle.walk.specs.declared.Counts.{Counts}
use Rattle.walk.specs.declared.Options.{Options}
use Rattle.walk.specs.declared.Record.{Record}
use Rattle.walk.specs.declared.Walk.{Walk}
use Rattle.walk.specs.IntoFunction.{begun}
use Rattle.invariants.proofs.CheckLaws.{Begins, Passed, begins-number, passed-number}
use Rattle.invariants.proofs.KeptLaws.{none-fits}
use Rattle.stability.specs.Runs.{Action, steps, finishes, run_from, run, Answers, here, later, Agree, SameLengths, Same, SameRuns, done, more}
use Rattle.stability.specs.Runs.{Stable}
use Rattle.stability.proofs.PairLaws.{none}
use Rattle.stability.proofs.TurnLaws.{revalued}
use Rattle.stability.proofs.SliceLaws.{Slices, paired-slices, same-pools, first-valued, second-valued}
use Rattle.stability.proofs.LongerLaws.{relisted, passed-longer, begins-longer}
use Rattle.stability.proofs.LeadLaws.{turn-rises}
use Rattle.stability.proofs.StepLaws.{turn_of, turn-same, turn-slices}
use Rattle.stability.proofs.ReachLaws.{Reaches, ended, goes, reaches-kept, reaches-below, run-reaches}

-- ---- a step, by its cases

module _ (o : Options) (code starts : List ℕ) (w : Walk) (l : Lists) where
  step-over : is_going w.result ≡ false → step o code starts w l ≡ unchanged w l w.result
  unfolding step
  step-over e = rw e

  step-on : is_going w.result ≡ true → Passed o code starts w l → step o code starts w l ≡ turned l (turn_of o code starts w l)
  unfolding step
  step-on e p = rw (e, passed-number o code starts w l p)

-- ---- the same run on both codes

module _ (o : Options) (starts c d : List ℕ) (longer : length c ≤ length d) (fits : o.base + length d ≤ 0x0300_0000)
    (start : ℕ) (r : Record) (agree : Agree c d o.base start (r.last_instruction_end + 4)) where
  -- the walk and the lists of the second run, by those of the first
  abbrev first : Walk → Lists → Answer → After
  first w l a = record { walk = w; lists = l; answer = a }

  abbrev second : Walk → Lists → Answer → List ℕ → List ℕ → After
  second w l a values pools = record { walk = revalued values w; lists = relisted pools l; answer = a }

  record InStep (w : Walk) (l : Lists) (pools : List ℕ) : Type 0 where
    above : start ≤ w.progress.address
    slices : Slices c d o.base w.counts.pools l.pools pools

  in-step-same : (w : Walk) (l : Lists) (a : Answer) (values pools : List ℕ) → InStep w l pools
      → Same c d o.base (first w l a) (second w l a values pools)
  in-step-same w l a values pools t = record {
    answers = refl;
    counts = refl;
    bytes = refl;
    labels = refl;
    pools = same-pools c d o.base t.slices;
    jump_tables = refl;
    inline_tables = refl;
    calls = refl;
    first_values = first-valued c d o.base t.slices;
    second_values = second-valued c d o.base t.slices;
  }

  -- what the actions come to from here
  abbrev SameFrom : List Action → After → After → Type 0
  SameFrom ks x y = SameRuns c d o.base (run_from o c starts x ks) (run_from o d starts y ks)

  same_runs : (ks : List Action) (w : Walk) (l : Lists) (a : Answer) (values pools : List ℕ) → InStep w l pools → Reaches o starts c r w l
      → SameFrom ks (first w l a) (second w l a values pools)
  unfolding run_from finish
  same_runs [] w l a values pools t reach = more (in-step-same w l a values pools t) done
  same_runs (finishes ∷ ks) w l a values pools t reach =
      more (in-step-same w l a values pools t) (same_runs ks w l (finish w) values pools t reach)
  same_runs (steps ∷ ks) w l a values pools t (ended e at) =
      let over : is_going w.result ≡ false = rw e in
      let rest : SameFrom ks (step o c starts w l) (step o d starts (revalued values w) (relisted pools l)) =
      rw (step-over o c starts w l over, step-over o d starts (revalued values w) (relisted pools l) over)
      (same_runs ks w l w.result values pools t (ended e at)) in
      more (in-step-same w l a values pools t) rest
  same_runs (steps ∷ ks) w l a values pools t (goes g p next) =
      let last = r.last_instruction_end in
      let kept = reaches-kept o starts c r next in
      let below = reaches-below o starts c r next in
      let up = turn-rises (given_by o c starts l) w (maps_in w.counts l) in
      let low = t.above in
      let k = turn-same o starts c d longer w l values pools t.slices p start last agree low kept below in
      let slices = turn-slices o starts c d longer w l values pools t.slices p _ k in
      let other = passed-longer o c d starts longer fits w l values pools t.slices p in
      let rest : SameFrom ks (step o c starts w l) (step o d starts (revalued values w) (relisted pools l)) =
      rw (step-on o c starts w l g p, step-on o d starts (revalued values w) (relisted pools l) g other, k.walk, k.maps)
      (same_runs ks (turn_of o c starts w l).walk (written l (turn_of o c starts w l).maps) (turn_of o c starts w l).walk.result k.values _
      (record { above = omega arith; slices = rw k.maps at slices })
      next) in
      more (in-step-same w l a values pools t) rest

-- ---- begins

-- zeros depend on the lengths alone
same-zeros : (l m : Lists) → SameLengths l m → zeroed m ≡ zeroed l
same-zeros l m s = rw (s.labels, s.pools, s.jump_tables, s.inline_tables, s.calls)

begin-passed : (o : Options) (start : ℕ) (code starts : List ℕ) (n : Counts) (l : Lists) → Begins o start code starts
    → begin o start code starts n l ≡ record { walk = begun start (counts_of no_maps); lists = zeroed l; answer = Going }
unfolding begin
begin-passed o start code starts n l b = rw (begins-number o start code starts b)

-- an answer of the first run is one of the second
same-answers : (c d : List ℕ) (base : ℕ) (r : Record) {xs ys : List After} → SameRuns c d base xs ys → Answers r xs → Answers r ys
same-answers c d base r done a = elim a [ ]
same-answers c d base r (more s k) (here e) = here (sym s.answers ∙ e)
same-answers c d base r (more s k) (later a) = later (same-answers c d base r k a)

-- the theorem about runs
pub stable : Stable
unfolding run begun
stable o start starts c d longer fits n₀ l₀ ks₀ r answers agree = record {
  accepted = λ n l lengths. same-answers c d o.base r (alike n₀ n l₀ l same-lengths lengths ks₀) answers;
  same = alike;
}
  where
    same-lengths : SameLengths l₀ l₀
    same-lengths = record { labels = refl; pools = refl; jump_tables = refl; inline_tables = refl; calls = refl }

    alike : (n n' : Counts) (l m : Lists) → SameLengths l₀ l → SameLengths l₀ m → (ks : List Action)
        → SameRuns c d o.base (run_from o c starts (begin o start c starts n l) ks) (run_from o d starts (begin o start d starts n' m) ks)
    alike n n' l m long-l long-m ks =
        let reach = run-reaches o starts c r start n₀ l₀ ks₀ answers in
        let walk = begun start (counts_of no_maps) in
        let empty = (none-fits (places_of l₀)).pools in
        rw (
          begin-passed o start c starts n l reach.0,
          begin-passed o start d starts n' m (begins-longer o c d starts longer fits start reach.0),
          same-zeros l₀ l long-l,
          same-zeros l₀ m long-m,
        )
        (same_runs o starts c d longer fits start r agree ks walk (zeroed l₀) Going walk.registers.values (zeroed l₀).pools
        (record { above = omega arith; slices = paired-slices c d o.base empty.is empty.room none })
        reach.1)
