-- A run that answers with a record comes to it: every check on the way has passed, and no turn was refused.
-- Assumes nothing.
use Rattle.base.proofs.Prelude.{refl, ◌≡◌, true, false, Bool, List, [], ◌∷◌, ◌≤◌, ℕ, arith, eqb, length, eq-eqb, eqb-true}
use Rattle.std.specs.Prelude.{Result, Ok, Err}
use Rattle.base.specs.declared.refusal.Refusal.{Refusal}
use Rattle.base.specs.Choice.{pick}
use Rattle.base.specs.declared.refusal.Refusal.TheVariants.{NotDone}
use Rattle.context.specs.Lists.{Lists, maps_in, written, zeroed, given_by}
use Rattle.context.specs.Turn.{no_maps, counts_of}
use Rattle.stepper.specs.Stepper.{After, is_going, refused, begin, begin_where, turned, unchanged, check_at, step, step_where, finish}
use Rattle.validity.specs.Validity.{begin_check}
use Rattle.walk.specs.declared.Answer.{Answer}
use Rattle.walk.specs.declared.Answer.TheVariants.{Going, Accepted, Refused}
use Rattle.walk.specs.declared.Counts.{Counts}
use Rattle.walk.specs.declared.Options.{Options}
use Rattle.walk.specs.declared.Record.{Record}
use Rattle.walk.specs.declared.Walk.{Walk}
use Rattle.walk.specs.IntoFunction.{begun}
use Rattle.invariants.proofs.CheckLaws.{Begins, Passed, number-begins, begins-number, number_passed, passed-begins}
use Rattle.stability.specs.Runs.{Action, steps, finishes, after_action, run_from, Answers, here, later}
use Rattle.stability.proofs.TurnLaws.{Unrefused}
use Rattle.stability.proofs.LeadLaws.{no_record, turn-rises, turn-ends}
use Rattle.stability.proofs.StepLaws.{turn_of}

module _ (o : Options) (starts c : List ℕ) (r : Record) where
  -- turn by turn
  pub data Reaches : Walk → Lists → Type 0 where
    ended : {w : Walk} {l : Lists} → w.result ≡ Accepted r → w.progress.address ≡ r.last_instruction_end → Reaches w l
    goes : {w : Walk} {l : Lists} → is_going w.result ≡ true → Passed o c starts w l
        → Reaches (turn_of o c starts w l).walk (written l (turn_of o c starts w l).maps) → Reaches w l

  going-kept : (x : Answer) → is_going x ≡ true → Unrefused x
  going-kept Going e = tt
  going-kept (Accepted q) e = tt
  going-kept (Refused n a q) e = absurd (let z : ◌≡◌ {A = ℕ} 0 1 = cc in omega arith)

  pub reaches-kept : {w : Walk} {l : Lists} → Reaches w l → Unrefused w.result
  reaches-kept (ended e a) = rw e tt
  reaches-kept {w} (goes g p next) = going-kept w.result g

  -- the address never falls
  pub reaches-below : {w : Walk} {l : Lists} → Reaches w l → w.progress.address ≤ r.last_instruction_end
  reaches-below (ended e a) = omega arith
  reaches-below {w} {l} (goes g p next) =
      let up = turn-rises (given_by o c starts l) w (maps_in w.counts l) in
      let below = reaches-below next in
      omega arith

  -- a call that answers with the record has left a walk that ended so
  pub record Honest (x : After) : Type 0 where
    pub says : x.answer ≡ Accepted r → x.walk.result ≡ Accepted r
    pub ends : x.walk.result ≡ Accepted r → x.walk.progress.address ≡ r.last_instruction_end

  pub finish-honest : (x : After) → Honest x → Honest (after_action o c starts finishes x)
  unfolding finish
  finish-honest x h = record { says = go x.walk.result; ends = h.ends }
    where
      go : (a : Answer) → pick (is_going a) (refused NotDone) a ≡ Accepted r → a ≡ Accepted r
      go Going e = absurd (no_record e tt)
      go (Accepted q) e = e
      go (Refused n a q) e = e

  -- a step, seen from the walk that it leaves
  module _ (w : Walk) (l : Lists) where
    abbrev step_by : Bool → Result (Unit {0}) Refusal → After
    step_by going check = pick going (step_where o c starts w l check) (unchanged w l w.result)

    pub step-honest : (w.result ≡ Accepted r → w.progress.address ≡ r.last_instruction_end) → Honest (step o c starts w l)
    unfolding step
    step-honest h = go (is_going w.result) (check_at o c starts w l)
      where
        go : (p : Bool) (q : Result (Unit {0}) Refusal) → Honest (step_by p q)
        go true (Ok t) = record { says = λ k. k; ends = turn-ends (given_by o c starts l) w (maps_in w.counts l) r }
        go true (Err refusal) = record { says = λ k. absurd (no_record k tt); ends = h }
        go false q = record { says = λ k. k; ends = h }

    -- one that is refused by 1 to 4 changes nothing, so each later one is refused too
    step-reaches : Reaches (step o c starts w l).walk (step o c starts w l).lists → Reaches w l
    unfolding step
    step-reaches = go (is_going w.result) (check_at o c starts w l) refl refl
      where
        go : (p : Bool) (q : Result (Unit {0}) Refusal) → is_going w.result ≡ p → check_at o c starts w l ≡ q
            → Reaches (step_by p q).walk (step_by p q).lists → Reaches w l
        go true (Ok t) e f next = goes e (number_passed o c starts w l f) next
        go true (Err refusal) e f next = next
        go false q e f next = next

  -- a run that answers with the record comes to it
  answers-reach : (ks : List Action) (x : After) → Honest x → Answers r (run_from o c starts x ks) → Reaches x.walk x.lists
  unfolding run_from
  answers-reach [] x h (here e) = ended (h.says e) (h.ends (h.says e))
  answers-reach [] x h (later a) = elim a [ ]
  answers-reach (k ∷ ks) x h (here e) = ended (h.says e) (h.ends (h.says e))
  answers-reach (steps ∷ ks) x h (later a) =
      step-reaches x.walk x.lists (answers-reach ks (step o c starts x.walk x.lists) (step-honest x.walk x.lists h.ends) a)
  answers-reach (finishes ∷ ks) x h (later a) = answers-reach ks (after_action o c starts finishes x) (finish-honest x h) a

  -- ---- from a begin

  module _ (start : ℕ) (n : Counts) (l : Lists) where
    abbrev check : Result (Unit {0}) Refusal
    check = begin_check o start (length c) starts

    pub begin-honest : Honest (begin o start c starts n l)
    unfolding begin begun
    begin-honest = go check
      where
        go : (b : Result (Unit {0}) Refusal) → Honest (begin_where start n l b)
        go (Ok t) = record { says = λ e. absurd (no_record e tt); ends = λ e. absurd (no_record e tt) }
        go (Err refusal) = record { says = λ e. absurd (no_record e tt); ends = λ e. absurd (no_record e tt) }

    -- a begin that is refused comes to no record: each step is refused too
    stuck : {refusal : Refusal} → check ≡ Err refusal → Reaches (begun start n) l → ⊥
    unfolding begun
    stuck e (ended f at) = no_record f tt
    stuck e (goes g p next) =
        let passes : check ≡ Ok tt = begins-number o start c starts (passed-begins o c starts (begun start n) l p) in
        let z : ◌≡◌ {A = ℕ} 0 1 = cc in
        omega arith

    begin-reaches : Reaches (begin o start c starts n l).walk (begin o start c starts n l).lists
        → Begins o start c starts × Reaches (begun start (counts_of no_maps)) (zeroed l)
    unfolding begin
    begin-reaches reach = go check refl reach
      where
        go : (b : Result (Unit {0}) Refusal) → check ≡ b → Reaches (begin_where start n l b).walk (begin_where start n l b).lists
            → Begins o start c starts × Reaches (begun start (counts_of no_maps)) (zeroed l)
        go (Ok t) e k = (number-begins o start c starts e, k)
        go (Err refusal) e k = absurd (stuck e k)

    pub run-reaches : (ks : List Action) → Answers r (run_from o c starts (begin o start c starts n l) ks)
        → Begins o start c starts × Reaches (begun start (counts_of no_maps)) (zeroed l)
    run-reaches ks a = begin-reaches (answers-reach ks (begin o start c starts n l) begin-honest a)
