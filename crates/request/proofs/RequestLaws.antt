-- What an input that is a request has.
-- Assumes nothing.
use Rattle.base.proofs.Prelude.{◌∙◌, refl, ◌≡◌, false, true, Bool, List, [], ◌≤◌, ℕ, ◌+◌, arith, leb, length, length-drop, eq-eqb, le-leb, leb-true}
use Rattle.base.proofs.Prelude.{eqb-true}
use Rattle.base.proofs.ChoiceLaws.{both_true}
use Rattle.base.specs.Choice.{pick}
use Rattle.words.specs.Lines.{word_at}
use Rattle.std.specs.Prelude.{Some, None}
use Rattle.request.specs.declared.Request.{Request}
use Rattle.request.specs.Request.{stated_length, version, check_byte, code_of, is_request, request_of, parsed}

pub record Fitting (input : List ℕ) : Type 0 where
  pub least : 22 ≤ stated_length input
  pub most : stated_length input ≤ 16406
  pub whole : stated_length input + 4 ≡ length input
  pub version : version input ≡ 1
  pub check : check_byte input ≤ 1

pub request-fits : (input : List ℕ) → is_request input ≡ true → Fitting input
unfolding is_request
request-fits input h =
    let a = both_true _ _ h in
    let b = both_true _ _ a.1 in
    let c = both_true _ _ b.1 in
    let d = both_true _ _ c.1 in
    record {
      least = leb-true _ _ a.0;
      most = leb-true _ _ b.0;
      whole = eqb-true _ _ c.0;
      version = eqb-true _ _ d.0;
      check = leb-true _ _ d.1;
    }

-- where all but the check byte is right, that byte decides
pub check-decides : (input : List ℕ) → 22 ≤ stated_length input → stated_length input ≤ 16406 → stated_length input + 4 ≡ length input → version input ≡ 1
    → is_request input ≡ leb (check_byte input) 1
unfolding is_request
check-decides input least most whole first = rw (le-leb _ _ least, le-leb _ _ most, eq-eqb _ _ whole, eq-eqb _ _ first)

pub fits-request : (input : List ℕ) → Fitting input → is_request input ≡ true
fits-request input f = check-decides input f.least f.most f.whole f.version ∙ le-leb _ _ f.check

-- 26 bytes before the code
pub request-length : (input : List ℕ) → is_request input ≡ true → 26 ≤ length input
request-length input h = let f = request-fits input h in omega (arith, f.least, f.whole)

pub no-request : (input : List ℕ) → (Fitting input → ⊥) → is_request input ≡ false
no-request input none = go (is_request input) refl
  where
    go : (t : Bool) → is_request input ≡ t → t ≡ false
    go true e = absurd (none (request-fits input e))
    go false e = refl

-- the code is what the stated length leaves: at most 16,384 bytes
pub code-length : (input : List ℕ) → is_request input ≡ true → length (code_of input) + 22 ≡ stated_length input
code-length input h = let f = request-fits input h in simp length-drop (omega (arith, f.least, f.whole))

pub asked-length : (input : List ℕ) (r : Request) → parsed input ≡ Some r → 26 ≤ length input
unfolding parsed
asked-length input r h = go (is_request input) refl h
  where
    go : (t : Bool) → is_request input ≡ t → pick t (Some (request_of input)) None ≡ Some r → 26 ≤ length input
    go true e p = request-length input e
    go false e p = let z : ◌≡◌ {A = ℕ} 0 1 = cc in absurd (omega arith)

example-empty : parsed [] ≡ None
unfolding parsed is_request word_at
example-empty = refl
