-- A return's long-branch test and tail call, and a branch by where it goes.
-- Assumes nothing.
use Rattle.base.proofs.Prelude.{◌∙◌, refl, ◌≡◌, ap, true, false, Bool, not, List, ℕ, ◌+◌, ◌<◌, ◌^◌, ltb, length}
use Rattle.analysis.specs.FunctionBranch.{function_branch, is_function_branch}
use Rattle.arm.specs.declared.Ins.{Ins}
use Rattle.arm.specs.Ins.{is_conditional}
use Rattle.base.specs.Choice.{pick, both, either}
use Rattle.predicates.specs.Predicates.{is_branch}
use Rattle.predicates.specs.declared.Mode.TheVariants.{Arm}
use Rattle.rows.specs.Map.{Held, map_in, stands-in}
use Rattle.walk.specs.declared.Machines.{Machines}
use Rattle.context.specs.declared.Module.{Module}
use Rattle.std.specs.Prelude.{Some}
use Rattle.context.specs.declared.State.{State}
use Rattle.context.specs.declared.Stepped.{Stepped}
use Rattle.context.specs.declared.Then.TheVariants.{Ends}
use Rattle.context.specs.Context.{Context, Step, ends, ◌▸◌, function_branch_to, label_row, pool_row}
use Rattle.context.specs.Blocks.{arm, call_to, is_destination, is_entry_at, is_long_branch_destination, is_in, is_other_function, handle_label, branch, branches, branched}
use Rattle.context.specs.State.{World, Holds, Comes, Does, Puts, ToldOfCalls, same, labels_in, pools_in, options_in, starts_in, asks_calls, has_place, context_of, machined, putting}
use Rattle.context.proofs.Laws.{onwards, call-comes, settled, go_on}

-- ---- a return

-- what the code is told of the calls settles the test: where it is not told, the next address is not below the last pool
module _ (size : ℕ) (is_called : Bool) (s : State) (l : World) where
  abbrev end : ℕ
  end = s.progress.address + size

  abbrev is_entry : Bool
  is_entry = is_entry_at l.given.code l.given.options.base end

  pub long-branch : {inside returns : Bool} → inside ≡ false → returns ≡ true → ToldOfCalls size inside returns is_called s l
      → both (ltb end s.progress.last_pool_address) (both is_called (not is_entry)) ≡ is_long_branch_destination end (context_of s l)
  unfolding is_long_branch_destination asks_calls
  long-branch b r told = step (ltb end s.progress.last_pool_address) refl
    where
      step : (below : Bool) → ltb end s.progress.last_pool_address ≡ below
          → both below (both is_called (not is_entry)) ≡ both below (both (is_destination end (context_of s l).maps.calls) (not is_entry))
      step true q = rw (told (rw (b, r, q)))
      step false q = refl

-- a tail call, and the end
pub tail-call : (i : Ins) (s : State) (word : ℕ) (l : World) {end : ℕ} {t : State} {r : Stepped}
    → t ≡ putting (Some (record { word = word; destination = i.target; mode = Arm })) s → r ≡ record { then = Ends end; state = t } → Holds s.counts l
    → Comes (has_place s.progress.address l) s.progress.address s.call r l (call_to i word arm (context_of s l) ▸ ends end)
tail-call i s word l {end} te re h =
    go_on (ends end) refl (call-comes i s word Arm l (ap onwards te) h)
    (settled (rw re (record { stays = refl; call = refl; holds = rw te h; says = refl })))

-- ---- where a branch goes

-- the source asks for the module, then for the other function, then whether it ends; the code asks for the label first, and then for the end
chosen : {A : Type 0} (m o f : Bool) (label end call : A)
    → pick m (pick o (pick f end call) label) call ≡ pick (both m (not o)) label (pick (both m f) end call)
chosen true true f label end call = refl
chosen true false f label end call = refl
chosen false o f label end call = refl

abbrev is_last : Ins → Bool → Bool
is_last i inside = both (not (is_conditional i.cond)) (not inside)

module _ (i : Ins) (word size : ℕ) (inside label last : Bool) where
  -- where it goes by the code's tests
  abbrev goes_by : Context → Step
  goes_by c = pick label (handle_label i size inside c) (pick last (ends (c.progress.address + size) c) (call_to i word arm c))

  branches-by : (c : Context) {in_module : Bool} → in_module ≡ is_in c.given.options.module_start c.given.options.module_end i.target
      → label ≡ both in_module (not (is_other_function i c)) → last ≡ both in_module (is_last i inside) → branches i word size inside c ≡ goes_by c
  unfolding branches
  branches-by c {in_module} m e f =
      rw (← m)
      (chosen in_module (is_other_function i c) (is_last i inside) (handle_label i size inside c) (ends (c.progress.address + size) c) (call_to i word arm c)
      ∙ rw (← e, ← f))

-- ---- branch, with the machine's next state in t

-- what handle_label requires
pub at-branch : (s : State) (size : ℕ) {t : State} {m : Machines} {labels pools : List ℕ} → t ≡ machined m s
    → Held label_row s.counts.labels labels × Held pool_row s.counts.pools pools × (s.progress.address + size < 2 ^ 32)
    → Held label_row t.counts.labels labels × Held pool_row t.counts.pools pools × (t.progress.address + size < 2 ^ 32)
at-branch s size e h = rw e h

module _ (given : Module) (i : Ins) (s : State) (word size : ℕ) (inside : Bool) (labels pools : List ℕ) {t : State}
    (te : t ≡ machined (function_branch_to (function_branch s.machines.function_branch i) s.machines) s) where
  abbrev world : List ℕ → World → World
  world x l = starts_in given.starts.now (options_in given.options (labels_in x (pools_in pools l)))

  pub branch-not : {r : Stepped} → is_branch i ≡ false → r ≡ onwards t → Puts (world labels) (world labels) (branch i word size inside) s r
  unfolding branch branched
  branch-not q re = λ l h. settled (rw (re, te, q) (record { stays = refl; call = refl; holds = h; says = refl }))

  abbrev is_label : Bool → Bool
  is_label in_module =
      both in_module (not (either (is_function_branch t.machines.function_branch) (stands-in (map_in 1 (length given.starts.now) given.starts.now) i.target)))

  module _ {r : Stepped} {in_module : Bool} (q : is_branch i ≡ true) (m : in_module ≡ is_in given.options.module_start given.options.module_end i.target) where
    by : {after : List ℕ} {label last : Bool} → label ≡ is_label in_module → last ≡ both in_module (is_last i inside)
        → Puts (world labels) (world after) (goes_by i word size inside label last) t r
        → Puts (world labels) (world after) (branch i word size inside) s r
    unfolding branch branched is_other_function
    by {label = label} {last} e f d = λ l h.
        rw (q, rw te at (branches-by i word size inside label last (context_of t (world labels l)) m e f)) (rw te at (d l (rw te h)))

    module _ {label : Bool} (e : label ≡ is_label in_module) where
      pub branch-label : {after : List ℕ} → label ≡ true
          → Does (λ l. labels_in labels (pools_in pools l)) (λ l. labels_in after (pools_in pools l)) (handle_label i size inside) t r
          → Puts (world labels) (world after) (branch i word size inside) s r
      branch-label y d = by e refl (rw y (λ l h. settled (d (starts_in given.starts.now (options_in given.options l)) h)))

      module _ {conditional last : Bool} (n : label ≡ false) (ce : conditional ≡ is_conditional i.cond)
          (f : last ≡ both in_module (both (not conditional) (not inside))) where
        pub branch-end : last ≡ true → r ≡ record { then = Ends (s.progress.address + size); state = t }
            → Puts (world labels) (world labels) (branch i word size inside) s r
        branch-end y re =
            by e (rw ce at f)
            (rw (n, y) (λ l h. settled (rw (re, te) (record { stays = refl; call = refl; holds = rw te at h; says = refl }))))

        pub branch-call : last ≡ false → Puts same same (call_to i word arm) t r → Puts (world labels) (world labels) (branch i word size inside) s r
        branch-call z d = by e (rw ce at f) (rw (n, z) (λ l. d (world labels l)))
