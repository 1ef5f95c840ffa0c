-- What stands first in bytes, read back: numbers of four bytes, and entries.
-- Assumes nothing.
use Rattle.base.proofs.Prelude.{◌∙◌, sym, refl, ap, ◌≡◌, List, [], ◌∷◌, ◌++◌, append_assoc, ◌<◌, ◌≤◌, ℕ, ◌^◌, ◌-◌, suc, zero, arith, length, take, drop, length-take-le, length-drop, take-append-drop}
use Rattle.std.specs.Int.{w32, from_be_bytes}
use Rattle.std.specs.List.{flat_map}
use Rattle.std.proofs.lemmas.Nat.{from_be_bytes-to_be_bytes_4}
use Rattle.rows.specs.Map.{Wide}
use Rattle.table.specs.File.{number, numbers, entry, entries}
use Rattle.table_laws.specs.Files.{Words}

-- what stands first and what stands behind it
pub record Apart {A : Type 0} (a b : A) (s t : List ℕ) : Type 0 where
  pub first : a ≡ b
  pub rest : s ≡ t

pub apart : (a b : List ℕ) {s t : List ℕ} → length a ≡ length b → a ++ s ≡ b ++ t → Apart a b s t
apart [] [] e h = record { first = refl; rest = h }
apart [] (y ∷ b) e h = absurd (omega arith)
apart (x ∷ a) [] e h = absurd (omega arith)
apart (x ∷ a) (y ∷ b) {s} {t} e h =
    let tails : a ++ s ≡ b ++ t = cc in
    let here : x ≡ y = cc in
    let more = apart a b (omega arith) tails in
    let same : a ≡ b = more.first in
    record { first = cc; rest = more.rest }

pub number-apart : (m n : ℕ) {s t : List ℕ} → m < 2 ^ 32 → n < 2 ^ 32 → number m ++ s ≡ number n ++ t → Apart m n s t
number-apart m n few fewer h =
    let parts = apart (number m) (number n) refl h in
    record {
      first = sym (from_be_bytes-to_be_bytes_4 m few) ∙ ap (from_be_bytes w32) parts.first ∙ from_be_bytes-to_be_bytes_4 n fewer;
      rest = parts.rest;
    }

pub numbers-apart : (ms ns : List ℕ) {s t : List ℕ} → length ms ≡ length ns → Words ms → Words ns → numbers ms ++ s ≡ numbers ns ++ t → Apart ms ns s t
unfolding numbers
numbers-apart [] [] e v w h = record { first = refl; rest = h }
numbers-apart [] (n ∷ ns) e v w h = absurd (omega arith)
numbers-apart (m ∷ ms) [] e v w h = absurd (omega arith)
numbers-apart (m ∷ ms) (n ∷ ns) {s} {t} e v w h =
    let head = number-apart m n v.0 w.0 (sym (append_assoc (number m) (flat_map number ms) s) ∙ h ∙ append_assoc (number n) (flat_map number ns) t) in
    let tail = numbers-apart ms ns (omega arith) v.1 w.1 head.rest in
    let here : m ≡ n = head.first in
    let more : ms ≡ ns = tail.first in
    record { first = cc; rest = tail.rest }

pub words-take : (n : ℕ) (xs : List ℕ) → Words xs → Words (take n xs)
words-take zero xs w = tt
words-take (suc n) [] w = tt
words-take (suc n) (x ∷ xs) w = (w.0, words-take n xs w.1)

pub words-drop : (n : ℕ) (xs : List ℕ) → Words xs → Words (drop n xs)
words-drop zero xs w = w
words-drop (suc n) [] w = tt
words-drop (suc n) (x ∷ xs) w = words-drop n xs w.1

-- an entry, with n numbers and what is behind them
pub entry-apart : (n : ℕ) (r q : List ℕ) {s t : List ℕ} → length r ≡ length q → n ≤ length r → Words r → Words q → entry n r ++ s ≡ entry n q ++ t → Apart r q s t
unfolding entry
entry-apart n r q {s} {t} e low v w h =
    let firsts = numbers-apart (take n r) (take n q) (length-take-le n r low ∙ sym (length-take-le n q (omega arith))) (words-take n r v) (words-take n q w)
    (sym (append_assoc (numbers (take n r)) (drop n r) s) ∙ h ∙ append_assoc (numbers (take n q)) (drop n q) t) in
    let lasts = apart (drop n r) (drop n q) (length-drop n r ∙ ap (λ (k : ℕ). k - n) e ∙ sym (length-drop n q)) firsts.rest in
    let one : take n r ≡ take n q = firsts.first in
    let two : drop n r ≡ drop n q = lasts.first in
    record { first = sym (take-append-drop n r) ∙ rw (one, two) (take-append-drop n q); rest = lasts.rest }

-- each row's numbers fit 32 bits
abbrev pub RowWords : List (List ℕ) → Type 0
RowWords [] = Unit {0}
RowWords (r ∷ rs) = Words r × RowWords rs

pub entries-apart : (k n : ℕ) (rs qs : List (List ℕ)) {s t : List ℕ} → n ≤ k → length rs ≡ length qs → Wide k rs → Wide k qs → RowWords rs → RowWords qs
    → entries n rs ++ s ≡ entries n qs ++ t → Apart rs qs s t
unfolding entries
entries-apart k n [] [] low e v w x y h = record { first = refl; rest = h }
entries-apart k n [] (q ∷ qs) low e v w x y h = absurd (omega arith)
entries-apart k n (r ∷ rs) [] low e v w x y h = absurd (omega arith)
entries-apart k n (r ∷ rs) (q ∷ qs) {s} {t} low e v w x y h =
    let one : length r ≡ k = v.0 in
    let two : length q ≡ k = w.0 in
    let head = entry-apart n r q (omega arith) (omega arith) x.0 y.0
    (sym (append_assoc (entry n r) (flat_map (entry n) rs) s) ∙ h ∙ append_assoc (entry n q) (flat_map (entry n) qs) t) in
    let tail = entries-apart k n rs qs low (omega arith) v.1 w.1 x.1 y.1 head.rest in
    let here : r ≡ q = head.first in
    let more : rs ≡ qs = tail.first in
    record { first = cc; rest = tail.rest }
