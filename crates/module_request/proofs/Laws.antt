-- What an input that is a request has.
-- Assumes nothing.
use Rattle.base.proofs.Prelude.{◌∙◌, refl, ◌≡◌, false, true, Bool, List, [], ◌≤◌, ℕ, ◌+◌, ◌*◌, ◌-◌, ◌/◌, ap, arith, leb, length, drop, take, length-drop, eq-eqb, le-leb, leb-true}
use Rattle.base.proofs.Prelude.{eqb-true}
use Rattle.base.proofs.ChoiceLaws.{both_true}
use Rattle.rows.proofs.MapLaws.{chunks-are, map-length}
use Rattle.std.specs.Simd.{first_chunks}
use Rattle.words.specs.Lines.{word_at}
use Rattle.request.specs.Request.{stated_length, version}
use Rattle.std.specs.Prelude.{Option, Some, None}
use Rattle.base.specs.Choice.{pick}
use Rattle.base.specs.declared.refusal.Refusal.{Refusal}
use Rattle.rows.specs.Order.{ascending}
use Rattle.base.specs.declared.refusal.Refusal.TheVariants.{BadRequest, BadLists}
use Rattle.module_request.specs.ModuleRequest.{check_byte, start_count, start_bytes, starts_of, head, code_of, is_request, refused}

pub record Fitting (input : List ℕ) : Type 0 where
  pub least : 18 ≤ stated_length input
  pub most : stated_length input ≤ 17426
  pub whole : stated_length input + 4 ≡ length input
  pub version : version input ≡ 1
  pub check : check_byte input ≤ 1
  pub few : start_count input ≤ 256
  pub there : head input ≤ length input
  pub code : length (code_of input) ≤ 16384

pub request-fits : (input : List ℕ) → is_request input ≡ true → Fitting input
unfolding is_request
request-fits input h =
    let a = both_true _ _ h in
    let b = both_true _ _ a.1 in
    let c = both_true _ _ b.1 in
    let d = both_true _ _ c.1 in
    let e = both_true _ _ d.1 in
    let f = both_true _ _ e.1 in
    let g = both_true _ _ f.1 in
    record {
      least = leb-true _ _ a.0;
      most = leb-true _ _ b.0;
      whole = eqb-true _ _ c.0;
      version = eqb-true _ _ d.0;
      check = leb-true _ _ e.0;
      few = leb-true _ _ f.0;
      there = leb-true _ _ g.0;
      code = leb-true _ _ g.1;
    }

pub fits-request : (input : List ℕ) → Fitting input → is_request input ≡ true
unfolding is_request
fits-request input f =
    rw (le-leb _ _ f.least, le-leb _ _ f.most, eq-eqb _ _ f.whole, eq-eqb _ _ f.version, le-leb _ _ f.check, le-leb _ _ f.few, le-leb _ _ f.there)
    (le-leb _ _ f.code)

pub no-request : (input : List ℕ) → (Fitting input → ⊥) → is_request input ≡ false
no-request input none = go (is_request input) refl
  where
    go : (t : Bool) → is_request input ≡ t → t ≡ false
    go true e = absurd (none (request-fits input e))
    go false e = refl

-- where all else is right, the code's length decides
pub code-decides : (input : List ℕ) (n : ℕ) → 18 ≤ stated_length input → stated_length input ≤ 17426 → stated_length input + 4 ≡ length input → version input ≡ 1
    → check_byte input ≤ 1 → start_count input ≤ 256 → head input ≤ length input → n ≡ length (code_of input) → is_request input ≡ leb n 16384
unfolding is_request
code-decides input n least most whole first check few there e =
    rw (le-leb _ _ least, le-leb _ _ most, eq-eqb _ _ whole, eq-eqb _ _ first, le-leb _ _ check, le-leb _ _ few, le-leb _ _ there, e)

example-empty : refused [] ≡ Some BadRequest
unfolding refused is_request word_at
example-empty = refl

-- the starts and the code, as the code takes them
pub taken-starts : (input words : List ℕ) (chunks : List (List ℕ)) (count : ℕ) → count ≡ start_count input → head input ≤ length input → words ≡ drop 22 input
    → chunks ≡ first_chunks 4 (length words / 4) words → take count chunks ≡ start_bytes input
taken-starts input words chunks count e there w k =
    let long : length words ≡ length input - 22 = ap length w ∙ length-drop 22 input in
    let few : count ≤ length words / 4 = omega arith in
    rw (k, chunks-are 4 count (length words / 4) words few, w, e)

-- an input that is not refused
pub asked-fits : (input : List ℕ) → refused input ≡ None → Fitting input × (ascending (starts_of input) ≡ true)
unfolding refused
asked-fits input h = go (is_request input) (ascending (starts_of input)) refl refl h
  where
    go : (s t : Bool) → is_request input ≡ s → ascending (starts_of input) ≡ t → ◌≡◌ {A = Option Refusal} (pick s (pick t None (Some BadLists)) (Some BadRequest)) None
        → Fitting input × (ascending (starts_of input) ≡ true)
    go true true e f p = (request-fits input e, f)
    go true false e f p = absurd (let z : ◌≡◌ {A = ℕ} 0 1 = cc in omega arith)
    go false t e f p = absurd (let z : ◌≡◌ {A = ℕ} 0 1 = cc in omega arith)

-- it has at most 256 starts
pub asked-few : (input : List ℕ) → refused input ≡ None → length (start_bytes input) ≤ 256
asked-few input h =
    let many : length (start_bytes input) ≡ start_count input = map-length 4 (start_count input) (drop 22 input) in
    omega (arith, (asked-fits input h).0.few, many)
