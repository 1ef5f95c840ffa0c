-- What stands first in bytes, read back: a function, and functions.
-- Assumes nothing.
use Rattle.base.proofs.Prelude.{◌∙◌, sym, refl, ◌≡◌, List, [], ◌∷◌, ◌++◌, map, append_assoc, ◌≤◌, ℕ, arith, length}
use Rattle.std.specs.List.{flat_map}
use Rattle.rows.specs.Map.{Wide}
use Rattle.table.specs.Table.{Function}
use Rattle.table.specs.Held.{label_row, pool_row, jump_table_row, inline_table_row, call_row}
use Rattle.table.specs.File.{numbers, entries, heading, function}
use Rattle.table_laws.specs.Files.{Words, unsaved}
use Rattle.table_laws.proofs.BytesLaws.{Apart, numbers-apart, RowWords, entries-apart}

-- rows of k numbers of 32 bits
pub record Narrow (k : ℕ) (rows : List (List ℕ)) : Type 0 where
  pub wide : Wide k rows
  pub words : RowWords rows

-- a function's addresses, counts and entries fit 32 bits
pub record Fits (f : Function) : Type 0 where
  pub heading : Words (heading f)
  pub labels : Narrow label_row f.labels
  pub pools : Narrow pool_row f.pools
  pub jump_tables : Narrow jump_table_row f.jump_tables
  pub inline_tables : Narrow inline_table_row f.inline_tables
  pub calls : Narrow call_row f.calls

list-apart : {k : ℕ} (n : ℕ) (rs qs : List (List ℕ)) {s t : List ℕ} → n ≤ k → length rs ≡ length qs → Narrow k rs → Narrow k qs
    → entries n rs ++ s ≡ entries n qs ++ t → Apart rs qs s t
list-apart {k} n rs qs low e v w h = entries-apart k n rs qs low e v.wide w.wide v.words w.words h

in_order : (n a b c d e s : List ℕ) → (((((n ++ a) ++ b) ++ c) ++ d) ++ e) ++ s ≡ n ++ (a ++ (b ++ (c ++ (d ++ (e ++ s)))))
in_order n a b c d e s = simp append_assoc

-- a function but for its saved registers
function_of : ℕ → ℕ → ℕ → ℕ → List (List ℕ) → List (List ℕ) → List (List ℕ) → List (List ℕ) → List (List ℕ) → Function
function_of a b c d l p j i k = record {
  start = a;
  end = b;
  first_instruction = c;
  last_instruction_end = d;
  saved_registers = 0;
  labels = l;
  pools = p;
  jump_tables = j;
  inline_tables = i;
  calls = k;
}

pub record Heads (f g : Function) : Type 0 where
  pub start : f.start ≡ g.start
  pub end : f.end ≡ g.end
  pub first_instruction : f.first_instruction ≡ g.first_instruction
  pub last_instruction_end : f.last_instruction_end ≡ g.last_instruction_end
  pub labels : length f.labels ≡ length g.labels
  pub pools : length f.pools ≡ length g.pools
  pub jump_tables : length f.jump_tables ≡ length g.jump_tables
  pub inline_tables : length f.inline_tables ≡ length g.inline_tables
  pub calls : length f.calls ≡ length g.calls

heads : (f g : Function) → heading f ≡ heading g → Heads f g
unfolding heading
heads f g e = record {
  start = cc;
  end = cc;
  first_instruction = cc;
  last_instruction_end = cc;
  labels = cc;
  pools = cc;
  jump_tables = cc;
  inline_tables = cc;
  calls = cc;
}

headings : (f g : Function) → length (heading f) ≡ length (heading g)
unfolding heading
headings f g = refl

same_function : (f g : Function) → Heads f g → f.labels ≡ g.labels → f.pools ≡ g.pools → f.jump_tables ≡ g.jump_tables
    → f.inline_tables ≡ g.inline_tables → f.calls ≡ g.calls → unsaved f ≡ unsaved g
unfolding function_of
same_function f g h l p j i k =
    let same : function_of f.start f.end f.first_instruction f.last_instruction_end f.labels f.pools f.jump_tables f.inline_tables f.calls
    ≡ function_of g.start g.end g.first_instruction g.last_instruction_end g.labels g.pools g.jump_tables g.inline_tables g.calls =
    rw (h.start, h.end, h.first_instruction, h.last_instruction_end, l, p, j, i, k) in
    same

pub function-apart : (f g : Function) {s t : List ℕ} → Fits f → Fits g → function f ++ s ≡ function g ++ t → Apart (unsaved f) (unsaved g) s t
unfolding function
function-apart f g {s} {t} v w h =
    let parts = sym (in_order (numbers (heading f)) (entries 1 f.labels) (entries 2 f.pools) (entries 2 f.jump_tables) (entries 2 f.inline_tables) (entries 3 f.calls) s)
    ∙ h ∙ in_order (numbers (heading g)) (entries 1 g.labels) (entries 2 g.pools) (entries 2 g.jump_tables) (entries 2 g.inline_tables) (entries 3 g.calls) t in
    let top = numbers-apart (heading f) (heading g) (headings f g) v.heading w.heading parts in
    let first = heads f g top.first in
    let labels = list-apart 1 f.labels g.labels (omega arith) first.labels v.labels w.labels top.rest in
    let pools = list-apart 2 f.pools g.pools (omega arith) first.pools v.pools w.pools labels.rest in
    let jumps = list-apart 2 f.jump_tables g.jump_tables (omega arith) first.jump_tables v.jump_tables w.jump_tables pools.rest in
    let inlines = list-apart 2 f.inline_tables g.inline_tables (omega arith) first.inline_tables v.inline_tables w.inline_tables jumps.rest in
    let calls = list-apart 3 f.calls g.calls (omega arith) first.calls v.calls w.calls inlines.rest in
    record { first = same_function f g first labels.first pools.first jumps.first inlines.first calls.first; rest = calls.rest }

abbrev pub AllFit : List Function → Type 0
AllFit [] = Unit {0}
AllFit (f ∷ fs) = Fits f × AllFit fs

pub functions-apart : (fs gs : List Function) {s t : List ℕ} → length fs ≡ length gs → AllFit fs → AllFit gs
    → flat_map function fs ++ s ≡ flat_map function gs ++ t → Apart (map unsaved fs) (map unsaved gs) s t
functions-apart [] [] e v w h = record { first = refl; rest = h }
functions-apart [] (g ∷ gs) e v w h = absurd (omega arith)
functions-apart (f ∷ fs) [] e v w h = absurd (omega arith)
functions-apart (f ∷ fs) (g ∷ gs) {s} {t} e v w h =
    let head = function-apart f g v.0 w.0 (sym (append_assoc (function f) (flat_map function fs) s) ∙ h ∙ append_assoc (function g) (flat_map function gs) t) in
    let tail = functions-apart fs gs (omega arith) v.1 w.1 head.rest in
    record { first = rw (head.first, tail.first); rest = tail.rest }
