-- An append's answer and a writer's in numbers.
-- Assumes nothing.
use Rattle.base.proofs.Prelude.{◌∙◌, sym, refl, ◌≡◌, ap, subst, true, false, Bool, List, [], ◌∷◌, ℕ, ◌+◌, length}
use Rattle.std.specs.Prelude.{Result, Ok, Err}
use Rattle.std.specs.Result.{is_ok, result_unwrap_or}
use Rattle.base.specs.Choice.{pick}
use Rattle.base.specs.declared.refusal.Refusal.{Refusal}
use Rattle.context.specs.Lists.{Lists as Walked, maps_in}
use Rattle.table.specs.Held.{Lists, held_by}
use Rattle.table.specs.declared.Table.{Table}
use Rattle.table.specs.File.{Filed, answer as file_answer, file_of, output_of}
use Rattle.walk.specs.declared.Counts.{Counts}
use Rattle.walk.specs.declared.Record.{Record}
use Rattle.append.specs.Append.{Lent, answer, appended, Appended, shared_by}
use Rattle.cugbejin_c.specs.Tables.{lists_by, lent_by, append_number, count_after, AppendsIn, write_answer, write_number, write_length, WritesIn}

counted : (r : Record) (n : Counts) (l : Walked) (before after : Lent) (result : Result (Unit {0}) Refusal)
    → after ≡ pick (is_ok result) (appended r n (maps_in n l) before) before → after.count ≡ count_after result before.count
unfolding appended
counted r n l before after (Ok done) e = ap (λ (t : Lent). t.count) e
counted r n l before after (Err refusal) e = ap (λ (t : Lent). t.count) e

pub appends-in : (number : ℕ) (r : Record) (n : Counts) (l : Walked) (before : Lent) (result : Result (Unit {0}) Refusal) (after : Lent)
    → Appended r n l before result after → number ≡ append_number result → AppendsIn number r n l before after.functions after.lists
appends-in number r n l before result after a e =
    let same : after ≡ lent_by after.functions (count_after (answer r n l before) before.count) after.lists =
    ap (λ (c : ℕ). lent_by after.functions c after.lists) (counted r n l before after result a.leaves ∙ ap (λ (x : Result (Unit {0}) Refusal). count_after x before.count) a.says) in
    record {
      returns = e ∙ ap append_number a.says;
      leaves = subst (Appended r n l before (answer r n l before)) same (subst (λ (x : Result (Unit {0}) Refusal). Appended r n l before x after) a.says a);
    }

same-answer : (t : Table) (places : ℕ) → file_answer t places ≡ write_answer (shared_by t) places
unfolding file_answer write_answer
same-answer t places = refl

pub writes-in : (number length_after : ℕ) (t : Table) (before after : List ℕ) (result : Result ℕ Refusal) → Filed t before result after → number ≡ write_number result
    → length_after ≡ write_length result → WritesIn number (length_after ∷ []) (shared_by t) before after
writes-in number length_after t before after result f e g =
    let says = f.says ∙ same-answer t (length before) in
    record {
      returns = e ∙ ap write_number says;
      tells = ap (λ (n : ℕ). n ∷ []) (g ∙ ap write_length says);
      leaves = f.leaves ∙ ap (λ (x : Result ℕ Refusal). output_of x (file_of (held_by t)) before) says;
    }

pub or-zero : (result : Result ℕ Refusal) → result_unwrap_or result 0 ≡ write_length result
or-zero (Ok k) = refl
or-zero (Err r) = refl

-- where the places are those of the lists after it
pub appends-there : (number : ℕ) (r : Record) (n : Counts) (l : Walked) (before : Lent) (result : Result (Unit {0}) Refusal) (after : Lent)
    → Appended r n l before result after → number ≡ append_number result → (functions labels pools jumps inlines calls : List ℕ)
    → functions ≡ after.functions → labels ≡ after.lists.labels → pools ≡ after.lists.pools → jumps ≡ after.lists.jump_tables → inlines ≡ after.lists.inline_tables
    → calls ≡ after.lists.calls → AppendsIn number r n l before functions (lists_by labels pools jumps inlines calls)
appends-there number r n l before result after a e functions labels pools jumps inlines calls p q s t u v =
    rw (p, q, s, t, u, v) (appends-in number r n l before result after a e)
