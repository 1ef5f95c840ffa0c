-- What the table program reads, byte by byte.
-- Assumes nothing.
use Rattle.std.specs.Prelude.{◌≡◌, ℕ, ◌+◌, ◌*◌, Bool, List, map, Option, Some, None, Result, MatchResult, eqb, leb, length, get_or, drop}
use Rattle.base.specs.Choice.{pick, both}
use Rattle.base.specs.declared.refusal.Refusal.{Refusal}
use Rattle.base.specs.declared.refusal.Refusal.TheVariants.{BadRequest, BadLists}
use Rattle.request.specs.Request.{stated_length, version}
use Rattle.rows.specs.Map.{map_in}
use Rattle.rows.specs.Order.{ascending}
use Rattle.walk.specs.declared.Options.{Options}
use Rattle.words.specs.Lines.{word_at}
use Rattle.module_request.specs.declared.ModuleRequest.{ModuleRequest}

-- the length, 4 bytes; the version, 1; base, module start and module end, 4 each; the check byte, 1; the number of starts, 4; the starts, 4
-- each; and the code
abbrev pub check_byte : List ℕ → ℕ
check_byte input = get_or input 17 0

abbrev pub start_count : List ℕ → ℕ
start_count input = word_at input 18

-- how many bytes stand before the code
abbrev pub head : List ℕ → ℕ
head input = 22 + start_count input * 4

-- the number of a start's four bytes
abbrev pub start_of : List ℕ → ℕ
start_of bytes = word_at bytes 0

-- the starts, as their bytes and as numbers
abbrev pub start_bytes : List ℕ → List (List ℕ)
start_bytes input = map_in 4 (start_count input) (drop 22 input)

abbrev pub starts_of : List ℕ → List ℕ
starts_of input = map start_of (start_bytes input)

abbrev pub code_of : List ℕ → List ℕ
code_of input = drop (head input) input

-- no function's end is known
unfoldable pub options_of : List ℕ → Options
options_of input = record {
  base = word_at input 5;
  module_start = word_at input 9;
  module_end = word_at input 13;
  known_end = None;
  check = eqb (check_byte input) 1;
}

-- the stated length is at least 18, at most 17,426 and that of what follows; the version is 1; the check byte is at most 1; there are at most
-- 256 starts, all of them are there, and at most 16,384 bytes of code. A missing byte reads as 0
unfoldable pub is_request : List ℕ → Bool
is_request input =
    both (leb 18 (stated_length input))
    (both (leb (stated_length input) 17426)
    (both (eqb (stated_length input + 4) (length input))
    (both (eqb (version input) 1)
    (both (leb (check_byte input) 1)
    (both (leb (start_count input) 256)
    (both (leb (head input) (length input))
    (leb (length (code_of input)) 16384)))))))

-- number 16, and then number 4 where the starts do not ascend strictly
unfoldable pub refused : List ℕ → Option Refusal
refused input = pick (is_request input) (pick (ascending (starts_of input)) None (Some BadLists)) (Some BadRequest)

pub record Holds (m : ModuleRequest) (input : List ℕ) : Type 0 where
  pub options : m.options ≡ options_of input
  pub starts : m.starts.now ≡ start_bytes input
  pub code : m.code.now ≡ code_of input

-- a request, with what it holds; or the refusal
abbrev pub Parsed : List ℕ → Result ModuleRequest Refusal → Type 0
Parsed input r = MatchResult r (λ m. (refused input ≡ None) × Holds m input) (λ refusal. refused input ≡ Some refusal)
