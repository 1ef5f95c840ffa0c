-- The reason that a walk's machine of illegal code gives has a name after a turn, where it has one before.
-- Assumes nothing.
use Rattle.base.proofs.Prelude.{refl, ◌≡◌, true, false, Bool, ℕ, inl, inr}
use Rattle.std.specs.Prelude.{Option, Some, None}
use Rattle.analysis.specs.declared.illegal_code.IllegalCodeState.{IllegalCodeState}
use Rattle.analysis.specs.declared.illegal_code.IllegalCodeState.TheVariants.{Start, ShiftedRegisterValue, Illegal}
use Rattle.analysis.specs.IllegalCode.{illegal_code, is_shift, dereferenced, offset_by_itself, reads_pc_into_pc}
use Rattle.arm.specs.declared.Ins.{Ins}
use Rattle.arm.specs.Ins.{decode_of}
use Rattle.base.specs.Choice.{pick}
use Rattle.base.specs.Refusals.{is_named}
use Rattle.base.specs.declared.refusal.Refusal.TheVariants.{IllegalOpcode, ShiftedBase, OffsetByItself, PcIntoPc}
use Rattle.base.specs.Words.{word_from}
use Rattle.classes.specs.Class.{is}
use Rattle.classes.specs.declared.Class.TheVariants.{Illegal as ILLEGAL}
use Rattle.context.specs.Context.{Maps, Given, Context, Step, with_machines}
use Rattle.context.specs.Turn.{context_at, closed, function_of, ending_at, settled, with_saved, turn_at, turn, arm_size}
use Rattle.invariants.proofs.BlockLaws.{Meets, is-on, has-gone, has_ended, is-refused, Kept, Coded, handle_ins-kept}
use Rattle.walk.specs.declared.Answer.{Answer}
use Rattle.walk.specs.declared.Answer.TheVariants.{Going, Accepted, Refused}
use Rattle.walk.specs.declared.Machines.{Machines}
use Rattle.walk.specs.declared.Walk.{Walk}

abbrev pub CodeNamed : IllegalCodeState → Type 0
CodeNamed Start = Unit {0}
CodeNamed (ShiftedRegisterValue reg) = Unit {0}
CodeNamed (Illegal reason) = is_named reason ≡ true

pub next-named : (s : IllegalCodeState) (i : Ins) → CodeNamed (illegal_code s i)
unfolding illegal_code
next-named s i = go (is i.class ILLEGAL) (is_shift i) (dereferenced s i) (offset_by_itself i) (reads_pc_into_pc i)
  where
    go : (a b c d e : Bool)
        → CodeNamed
        (pick a (Illegal IllegalOpcode)
        (pick b (ShiftedRegisterValue i.rd) (pick c (Illegal ShiftedBase) (pick d (Illegal OffsetByItself) (pick e (Illegal PcIntoPc) Start)))))
    go true b c d e = refl
    go false true c d e = tt
    go false false true d e = refl
    go false false false true e = refl
    go false false false false true = refl
    go false false false false false = tt

abbrev Holds : Context → Type 0
Holds c = CodeNamed c.machines.illegal_code

holds-kept : (i : Ins) (size : ℕ) → Kept i size Holds (λ e c. Holds c)
holds-kept i size = record {
  machines = step;
  raises = λ d c p. p;
  tables = λ d c p. p;
  defines = λ d c p. p;
  forgets = λ c p. p;
  marks = λ a c p. p;
  labels = λ row c e f p. p;
  jump_tables = λ row c e f p. p;
  inline_tables = λ row c e f p. p;
  calls = λ row c e f p. p;
  loads = λ a v c e f p. p;
  ends = λ c p. p;
  entry = λ e c p. p;
}
  where
    step : (m : Machines) (c : Context) → Coded i c m → Holds c → Holds (with_machines m c)
    step m c (inl e) p = rw e p
    step m c (inr e) p = rw e (next-named c.machines.illegal_code i)

closed-holds : (a : Answer) (c : Context) → Holds c → CodeNamed (closed a c).walk.machines.illegal_code
closed-holds Going c p = p
closed-holds (Accepted r) c p = p
closed-holds (Refused n a r) c p = p

settled-holds : (before : Context) → Holds before → {s : Step} → Meets (λ _. ⊥) Holds (λ e c. Holds c) s
    → CodeNamed (settled before s).walk.machines.illegal_code
settled-holds before p (is-on b) = absurd b
settled-holds before p (has-gone q) = q
settled-holds before p (has_ended {a = a} {c = c} q) = closed-holds (function_of a c) (ending_at before a c) q
settled-holds before p is-refused = p

pub turn-code : (g : Given) (w : Walk) (m : Maps) → CodeNamed w.machines.illegal_code → CodeNamed (turn g w m).walk.machines.illegal_code
unfolding turn
turn-code g w m h = find (word_from g.code g.options.base w.progress.address)
  where
    find : (x : Option ℕ) → CodeNamed (turn_at x (context_at g w m)).walk.machines.illegal_code
    find None = h
    find (Some word) =
        let i = decode_of word w.progress.address in
        settled-holds (context_at g w m) h
        (handle_ins-kept i arm_size Holds Holds (λ e c. Holds c) (holds-kept i arm_size) (λ n c e p. p) word (with_saved i (context_at g w m)) h
        (λ d q. q) (λ n s. h))
