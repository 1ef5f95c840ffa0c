-- A branch to a label: the label that is entered, the destination that it raises, and the way past pools.
-- Assumes nothing.
use Rattle.base.proofs.Prelude.{◌∙◌, sym, refl, ◌≡◌, ap, false, true, Bool, List, [], ◌∷◌, ℕ, ◌+◌, ◌<◌, ◌^◌, arith, ltb, length, ltb-true}
use Rattle.arm.specs.declared.Ins.{Ins}
use Rattle.base.specs.Choice.{pick}
use Rattle.rows.specs.Rows.{rank}
use Rattle.rows.specs.Map.{key_of, map_in, Entering, at_or_above}
use Rattle.std.specs.Prelude.{Some, None, Ok, Err}
use Rattle.base.specs.declared.refusal.Refusal.{Refusal}
use Rattle.context.specs.declared.State.{State}
use Rattle.context.specs.declared.Stepped.{Stepped}
use Rattle.context.specs.declared.Then.TheVariants.{Refuses}
use Rattle.context.specs.Context.{enter_label, raising, label_row, pool_row}
use Rattle.context.specs.Blocks.{past_pools, raises_label, label_raised, handle_label}
use Rattle.context.specs.State.{World, Settles, Does, context_of, counted, count_labels, progressed, labels_in, pools_in}
use Rattle.context.proofs.Laws.{onwards, full-refusal, entered-in, entered-full, labels-held, go-settled}
use Rattle.labels.specs.Labels.{DoesOver, raises_by, raised_by}

-- the first label at or above an address is one of the labels
pub above_within : (x : ℕ) (m : List (List ℕ)) {k : ℕ} → at_or_above x m ≡ Some k → k < length m
unfolding at_or_above
above_within x m {k} = step (ltb (rank key_of x m) (length m)) refl
  where
    step : (b : Bool) → ltb (rank key_of x m) (length m) ≡ b → pick b (Some (rank key_of x m)) None ≡ Some k → k < length m
    step true q e = let p : rank key_of x m ≡ k = cc in rw p at (ltb-true (rank key_of x m) (length m) q)
    step false q e = let z : ◌≡◌ {A = ℕ} 0 1 = cc in omega (arith, z)

-- ---- the raise

module _ (i : Ins) (inside : Bool) where
  raised-address : (s : State) → (raised_by i inside s).progress.address ≡ s.progress.address
  raised-address s = step (raises_by i inside s.progress)
    where
      step : (b : Bool) → (pick b (raising i.target s.progress) s.progress).address ≡ s.progress.address
      step true = refl
      step false = refl

  raised_is : (s : State) (l : World) → context_of (raised_by i inside s) l ≡ label_raised i inside (context_of s l)
  unfolding label_raised raises_label
  raised_is s l = step (raises_by i inside s.progress)
    where
      step : (b : Bool) → context_of (progressed (pick b (raising i.target s.progress) s.progress) s) l
          ≡ pick b (context_of (progressed (raising i.target s.progress) s) l) (context_of s l)
      step true = refl
      step false = refl

  -- what the way past pools requires
  pub at_label : (s : State) (size : ℕ) {t u : State} {x : ℕ}
      → t ≡ counted (count_labels x s.counts) s → u ≡ raised_by i inside t
      → s.progress.address + size < 2 ^ 32 → u.progress.address + size < 2 ^ 32
  at_label s size {t} te ue h = rw (ue, raised-address t, te) h

-- ---- handle_label, after its label was entered

module _ (i : Ins) (s : State) (size : ℕ) (inside : Bool) (pools : List ℕ) {before after : List ℕ} (long : length after ≡ length before) where
  pub label-full : {refusal : Refusal} {r : Stepped} → Entering label_row s.counts.labels before (i.target ∷ []) (Err refusal) after
      → r ≡ record { then = Refuses refusal 0; state = s }
      → Does (λ l. labels_in before (pools_in pools l)) (λ l. labels_in after (pools_in pools l)) (handle_label i size inside) s r
  unfolding handle_label
  label-full put re = λ l h.
      rw (re, full-refusal put)
      (record {
        stays = refl;
        call = refl;
        holds = labels-held (pools_in pools l) h put.held long;
        says = sym (rw (entered-full _ _ h.label_places put));
      })

  pub label-in : {count : ℕ} {t u : State} {r : Stepped} {labels' pools' : List (List ℕ)} → Entering label_row s.counts.labels before (i.target ∷ []) (Ok count) after
      → t ≡ counted (count_labels count s.counts) s → u ≡ raised_by i inside t
      → labels' ≡ map_in label_row count after → pools' ≡ map_in pool_row s.counts.pools pools → DoesOver labels' pools' (past_pools i size) u r
      → Does (λ l. labels_in before (pools_in pools l)) (λ l. labels_in after (pools_in pools l)) (handle_label i size inside) s r
  unfolding handle_label
  label-in {count} {t} {u} {r} put te ue le pe d = λ l h.
      let held = labels-held (pools_in pools l) h put.held long in
      let w : Settles s.progress.address s.call (onwards t) (labels_in after (pools_in pools l)) (enter_label (i.target ∷ []) (context_of s (labels_in before (pools_in pools l))))
      = rw te (record { stays = refl; call = refl; holds = held; says = sym (rw (entered-in _ _ h.label_places put)) }) in
      let v = d (labels_in after (pools_in pools l)) (rw (ue, te) le) (rw (ue, te) pe) (rw (ue, te) held) in
      go-settled (λ c. past_pools i size (label_raised i inside c)) refl w
      (record {
        stays = v.stays ∙ rw ue (raised-address i inside t);
        call = v.call ∙ rw ue;
        holds = v.holds;
        says = v.says ∙ ap (past_pools i size) (rw ue (raised_is i inside t (labels_in after (pools_in pools l))));
      })
