-- Files are equal exactly where tables are but for the saved registers, and a file has the length that it says.
-- Assumes nothing.
use Rattle.base.proofs.Prelude.{◌∙◌, sym, refl, ap, ◌≡◌, List, [], ◌∷◌, ◌++◌, map, append-nil, ◌<◌, ℕ, ◌^◌, arith, length, take, take_at}
use Rattle.std.specs.Int.{w32, from_be_bytes}
use Rattle.std.specs.List.{flat_map}
use Rattle.std.proofs.lemmas.Nat.{from_be_bytes-to_be_bytes_4}
use Rattle.table.specs.Table.{Function}
use Rattle.table.specs.Held.{held_by}
use Rattle.std.proofs.lemmas.List.{length-map}
use Rattle.table.specs.File.{number, heading, function, body, file_of}
use Rattle.table.proofs.WriteLaws.{file-length}
use Rattle.table_laws.specs.Files.{unsaved, SameFiles, SaysLength}
use Rattle.table_laws.proofs.BytesLaws.{apart, number-apart}
use Rattle.table_laws.proofs.FunctionLaws.{AllFit, functions-apart}
use Rattle.table_laws.proofs.HeldWords.{known}

-- what follows the length tells the table
body_same : (fs gs : List Function) → AllFit fs → AllFit gs → length fs < 2 ^ 32 → length gs < 2 ^ 32 → body fs ≡ body gs → map unsaved fs ≡ map unsaved gs
unfolding body
body_same fs gs v w few fewer e =
    let counts : number (length fs) ++ flat_map function fs ≡ number (length gs) ++ flat_map function gs = cc in
    let many = number-apart (length fs) (length gs) few fewer counts in
    (functions-apart fs gs {s = []} {t = []} many.first v w (rw (append-nil (flat_map function fs), append-nil (flat_map function gs)) many.rest)).first

file_same : (fs gs : List Function) → AllFit fs → AllFit gs → length fs < 2 ^ 32 → length gs < 2 ^ 32 → file_of fs ≡ file_of gs → map unsaved fs ≡ map unsaved gs
unfolding file_of
file_same fs gs v w few fewer e = body_same fs gs v w few fewer (apart (number (length (body fs))) (number (length (body gs))) refl e).rest

-- a file has nothing of the saved registers
functions-unsaved : (fs : List Function) → flat_map function (map unsaved fs) ≡ flat_map function fs
unfolding function heading
functions-unsaved [] = refl
functions-unsaved (f ∷ fs) = ap (λ (bytes : List ℕ). function f ++ bytes) (functions-unsaved fs)

file-unsaved : (fs : List Function) → file_of (map unsaved fs) ≡ file_of fs
unfolding file_of body
file-unsaved fs = rw (length-map, functions-unsaved fs)

pub same-files : SameFiles
same-files t u m n a b =
    let one = known t m a in
    let two = known u n b in
    (λ e. file_same (held_by t) (held_by u) one.fit two.fit one.few two.few e, λ e. sym (file-unsaved (held_by t)) ∙ ap file_of e ∙ file-unsaved (held_by u))

length_said : (fs : List Function) → length (body fs) < 2 ^ 32 → length (body fs) ≡ from_be_bytes w32 (take 4 (file_of fs))
unfolding file_of
length_said fs short =
    sym (ap (from_be_bytes w32) (take_at (number (length (body fs))) (body fs) 4 refl) ∙ from_be_bytes-to_be_bytes_4 (length (body fs)) short)

pub says-length : SaysLength
says-length t n a =
    let said = length_said (held_by t) (known t n a).short in
    let all = file-length (held_by t) in
    omega (arith, said, all)
