-- An accepted walk counts no more than it has come.
-- Assumes nothing.
use Rattle.base.proofs.Prelude.{◌∙◌, sym, refl, ◌≡◌, ap, true, false, Bool, List, ◌≤◌, ℕ, ◌+◌, suc, zero, arith, length}
use Rattle.std.specs.Prelude.{Result, Ok, Err}
use Rattle.base.specs.declared.refusal.Refusal.{Refusal}
use Rattle.context.specs.Context.{Given}
use Rattle.context.specs.Lists.{Lists, zeroed, given_by}
use Rattle.context.specs.Turn.{Turned, turn}
use Rattle.invariants.specs.Bytes.{bytes_of}
use Rattle.invariants.specs.Turns.{turns_from}
use Rattle.invariants.proofs.BytesLaws.{steps-start, steps-within}
use Rattle.invariants.proofs.EndingLaws.{ended-stays}
use Rattle.stability.proofs.LeadLaws.{turn-ends, no_record}
use Rattle.stepper.specs.Stepper.{After, is_going, begin, begin_where}
use Rattle.tag.proofs.TagLaws.{run-bytes}
use Rattle.tag_laws.specs.Claims.{Within}
use Rattle.validity.specs.Validity.{begin_check}
use Rattle.walk.specs.declared.Answer.TheVariants.{Accepted}
use Rattle.walk.specs.declared.Counts.{Counts}
use Rattle.walk.specs.declared.Options.{Options}
use Rattle.walk.specs.declared.Record.{Record}
use Rattle.walk.specs.declared.Walk.{Walk}
use Rattle.walk.specs.IntoFunction.{begun}
use Rattle.whole.specs.Whole.{run}
use Rattle.whole.proofs.WholeLaws.{opened, first-going, first, last, run-begin, run-whole}

abbrev Below : Walk → Type 0
Below w = w.progress.start + w.progress.instruction_bytes ≤ w.progress.address

module _ (o : Options) (start : ℕ) (code starts : List ℕ) (n : Counts) (l : Lists) where
  -- a begin, refused or not
  opened-walk : (P : Walk → Type 0) → ((m : Counts) → P (begun start m)) → P (opened o start code starts n l).walk
  unfolding begin
  opened-walk P p = step (begin_check o start (length code) starts)
    where
      step : (b : Result (Unit {0}) Refusal) → P (begin_where start n l b).walk
      step (Ok t) = p _
      step (Err refusal) = p n

  module _ (going : is_going (opened o start code starts n l).answer ≡ true) where
    run-start : (run o code starts start n l).walk.progress.start ≡ start
    unfolding run begun
    run-start =
        rw going
        (steps-start o code starts (suc (length code)) (opened o start code starts n l)
        ∙ opened-walk (λ w. w.progress.start ≡ start) (λ m. refl))

    run-within : Below (run o code starts start n l).walk
    unfolding run begun
    run-within =
        rw going
        (steps-within o code starts (suc (length code)) (opened o start code starts n l) (opened-walk Below (λ m. omega arith)))

module _ (g : Given) where
  -- a walk ends where its last instruction does
  turns-end : (r : Record) (n : ℕ) (t : Turned) → is_going t.walk.result ≡ true → (turns_from g n t).walk.result ≡ Accepted r
      → (turns_from g n t).walk.progress.address ≡ r.last_instruction_end
  unfolding turns_from
  turns-end r zero t going e = absurd (let f = rw e at going in let z : ◌≡◌ {A = ℕ} 0 1 = cc in omega arith)
  turns-end r (suc n) t going e = rw going (go (is_going next.walk.result) refl (turns-end r n next) (rw going at e))
    where
      next : Turned
      next = turn g t.walk t.maps

      go : (b : Bool) → is_going next.walk.result ≡ b
          → (is_going next.walk.result ≡ true → (turns_from g n next).walk.result ≡ Accepted r
          → (turns_from g n next).walk.progress.address ≡ r.last_instruction_end)
          → (turns_from g n next).walk.result ≡ Accepted r → (turns_from g n next).walk.progress.address ≡ r.last_instruction_end
      go true f more h = more f h
      go false f more h =
          let same = ended-stays g n next f in
          rw same (turn-ends g t.walk t.maps r (rw same at h))

module _ (o : Options) (start : ℕ) (code starts : List ℕ) (n : Counts) (l : Lists) (r : Record)
    (e : (run o code starts start n l).answer ≡ Accepted r) where
  -- a refused begin answers with no record
  begin-no : (opened o start code starts n l).answer ≡ Accepted r → ⊥
  unfolding begin
  begin-no h = step (begin_check o start (length code) starts) h
    where
      step : (b : Result (Unit {0}) Refusal) → (begin_where start n l b).answer ≡ Accepted r → ⊥
      step (Ok t) k = no_record k tt
      step (Err refusal) k = no_record k tt

  pub begins-on : is_going (opened o start code starts n l).answer ≡ true
  begins-on = step (is_going (opened o start code starts n l).answer) refl
    where
      step : (b : Bool) → is_going (opened o start code starts n l).answer ≡ b → is_going (opened o start code starts n l).answer ≡ true
      step true h = h
      step false h = absurd (begin-no (ap (λ (x : After). x.answer) (sym (run-begin o start code starts n l h)) ∙ e))

  abbrev pub given : Given
  given = given_by o code starts (zeroed l)

  -- the walk has come to the record
  pub last-is : (last o start code starts n l).walk.result ≡ Accepted r
  last-is = ap (λ (x : After). x.answer) (sym (run-whole o start code starts n l begins-on)) ∙ e

  ends-there : (last o start code starts n l).walk.progress.address ≡ r.last_instruction_end
  ends-there = turns-end given r (suc (length code)) (first o start code starts n l) (first-going o start code starts n l) last-is

  within-here : start + bytes_of o code starts start n l ≤ r.last_instruction_end
  unfolding run begun begin
  within-here =
      let going = begins-on in
      let bytes = run-bytes o start code starts n l going in
      let end = ends-there in
      let at = ap (λ (x : After). x.walk.progress.address) (run-whole o start code starts n l going) in
      let starts_there = run-start o start code starts n l going in
      let below = run-within o start code starts n l going in
      omega arith

pub within : Within
within o start code starts n l r e = within-here o start code starts n l r e
