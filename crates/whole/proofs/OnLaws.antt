-- A walk on the way to its result, turn by turn: what the loop keeps.
-- Assumes nothing.
use Rattle.base.proofs.Prelude.{◌∙◌, sym, refl, ◌≡◌, ap, subst⁻¹, true, false, Bool, List, ◌≤◌, ℕ, ◌+◌, ◌<◌, ◌-◌, suc, ◌^◌, arith, length}
use Rattle.base.specs.Choice.{pick}
use Rattle.context.specs.Context.{Given}
use Rattle.context.specs.Lists.{Lists, AllHeld, maps_in, places_of, given_by}
use Rattle.context.specs.Turn.{Turned, turn}
use Rattle.invariants.specs.Turns.{turns_from}
use Rattle.invariants.proofs.BytesLaws.{turn-within}
use Rattle.invariants.proofs.EndingLaws.{one_more, stays, going-within}
use Rattle.invariants.proofs.StepLaws.{same-given}
use Rattle.invariants.proofs.TurnLaws.{turn-past}
use Rattle.stepper.specs.Stepper.{is_going}
use Rattle.turn.specs.Turning.{Turns}
use Rattle.walk.specs.declared.Answer.{Answer}
use Rattle.walk.specs.declared.Options.{Options}
use Rattle.walk.specs.declared.Walk.{Walk}

-- a walk, with the maps in its lists
abbrev pub held : Walk → Lists → Turned
held w l = record { walk = w; maps = maps_in w.counts l }

abbrev goes_on : Turned → Bool
goes_on t = is_going t.walk.result

-- what is left of a walk: nothing once it has a result
abbrev pub left : Answer → ℕ → ℕ
left result address = pick (is_going result) (suc (2 ^ 32 - address)) 0

module _ (o : Options) (code starts : List ℕ) (w : Walk) (l : Lists) where
  abbrev given : Given
  given = given_by o code starts l

  -- the walk after so many turns
  abbrev after : ℕ → Turned
  after n = turns_from given n (held w l)

  abbrev Below : Walk → Type 0
  Below here = here.progress.start + here.progress.instruction_bytes ≤ here.progress.address

  -- so many have led here
  pub record On (here : Walk) (k : Lists) : Type 0 where
    pub turns : ℕ
    pub few : turns ≤ suc (length code)
    pub is : held here k ≡ after turns
    pub holds : AllHeld here.counts k
    pub within : here.progress.start + here.progress.instruction_bytes ≤ here.progress.address
    pub places : places_of k ≡ places_of l

  pub on-start : AllHeld w.counts l → w.progress.start + w.progress.instruction_bytes ≤ w.progress.address → On w l
  unfolding turns_from
  on-start h b = record { turns = 0; few = omega arith; is = refl; holds = h; within = b; places = refl }

  module _ (here : Walk) (k : Lists) (on : On here k) where
    pub on-end : is_going here.result ≡ false → Turns here l k (turns_from given (suc (length code)) (held w l))
    on-end off =
        let ended : goes_on (after on.turns) ≡ false = ap goes_on (sym on.is) ∙ off in
        let all : held here k ≡ after (suc (length code)) = on.is ∙ sym (stays given on.turns (suc (length code)) (held w l) on.few ended) in
        record { walks = ap (λ (t : Turned). t.walk) all; held = on.holds; places = on.places; maps = ap (λ (t : Turned). t.maps) all }

    abbrev turned : Given → Turned
    turned g = turn g here (maps_in here.counts k)

    module _ (going : is_going here.result ≡ true) (r : Walk) (m : Lists) (next : Turns r k m (turned (given_by o code starts k))) where
      -- the lists have the places that they had
      taken : turned (given_by o code starts k) ≡ turned given
      taken = ap turned (same-given k l on.places o code starts)

      pub on-more : On r m
      on-more =
          let still : goes_on (after on.turns) ≡ true = ap goes_on (sym on.is) ∙ going in
          let within = going-within given on.turns (held w l) still in
          let one : held r m ≡ turned (given_by o code starts k) = rw (next.maps, next.walks) in
          record {
            turns = suc on.turns;
            few = omega arith;
            is =
                one ∙ taken ∙ ap (λ (t : Turned). turn given t.walk t.maps) on.is
                ∙ sym (one_more given on.turns (held w l) still);
            holds = next.held;
            within = subst⁻¹ Below (next.walks ∙ ap (λ (t : Turned). t.walk) taken) (turn-within given here (maps_in here.counts k) on.within);
            places = next.places ∙ on.places;
          }

      pub on-less : r.progress.address < 2 ^ 32 → left r.result r.progress.address < left here.result here.progress.address
      on-less small = rw going (step (is_going r.result) refl)
        where
          step : (b : Bool) → is_going r.result ≡ b → pick b (suc (2 ^ 32 - r.progress.address)) 0 < suc (2 ^ 32 - here.progress.address)
          step false e = omega arith
          step true e =
              let same : r ≡ (turned given).walk = next.walks ∙ ap (λ (t : Turned). t.walk) taken in
              let past = turn-past given here (maps_in here.counts k) (ap (λ (x : Walk). is_going x.result) (sym same) ∙ e) in
              let at : r.progress.address ≡ (turned given).walk.progress.address = ap (λ (x : Walk). x.progress.address) same in
              omega arith
