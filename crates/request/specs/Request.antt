-- Document 01: what the listing program reads, byte by byte.
-- Assumes nothing.
use Rattle.std.specs.Prelude.{ℕ, ◌+◌, Bool, List, Option, Some, None, eqb, leb, length, get_or, drop}
use Rattle.base.specs.Choice.{pick, both}
use Rattle.words.specs.Lines.{word_at}
use Rattle.request.specs.declared.Request.{Request}

-- the length, 4 bytes; the version, 1; base, module start, module end, start and known end, 4 each; the check byte, 1; and the code
abbrev pub stated_length : List ℕ → ℕ
stated_length input = word_at input 0

abbrev pub version : List ℕ → ℕ
version input = get_or input 4 0

abbrev pub check_byte : List ℕ → ℕ
check_byte input = get_or input 25 0

abbrev pub code_of : List ℕ → List ℕ
code_of input = drop 26 input

-- 0 is none
unfoldable pub known_end : ℕ → Option ℕ
known_end end = pick (eqb end 0) None (Some end)

unfoldable pub request_of : List ℕ → Request
request_of input = record {
  options = record {
    base = word_at input 5;
    module_start = word_at input 9;
    module_end = word_at input 13;
    known_end = known_end (word_at input 21);
    check = eqb (check_byte input) 1;
  };
  start = word_at input 17;
}

-- the stated length is at least 22, at most 16,406 and that of what follows; the version is 1; the check byte is at most 1. A missing byte
-- reads as 0, and four bytes of length with what follows are never fewer than four, so a shorter input is no request
unfoldable pub is_request : List ℕ → Bool
is_request input =
    both (leb 22 (stated_length input))
    (both (leb (stated_length input) 16406)
    (both (eqb (stated_length input + 4) (length input))
    (both (eqb (version input) 1)
    (leb (check_byte input) 1))))

unfoldable pub parsed : List ℕ → Option Request
parsed input = pick (is_request input) (Some (request_of input)) None
