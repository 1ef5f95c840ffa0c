-- The laws of `put` and `Written`. Two pieces, one after the other, are one: `put-put` and `written_then`.
-- Most ask only that the first piece starts within the buffer.
-- Assumes nothing.
use Rattle.base.proofs.Prelude.{◌∙◌, sym, refl, ◌≡◌, ap, subst, List, [], ◌∷◌, ◌++◌, append_assoc, ◌≤◌, ℕ, ◌+◌, ◌<◌, ◌-◌, zero-le, arith, add-zero}
use Rattle.base.proofs.Prelude.{add-one, length, get_or, drop, take, length-drop, set, length-append, take-append-drop, length-take-le, drop_at}
use Rattle.base.proofs.Prelude.{take_at, drop-drop, get_or-drop, get_or-take}
use native.Mathlib.Nat.{zero-add, add_assoc}
use lib.ListN.{length-take, get_or-append}
use lib.Seq.{take-take, take-append-le, set_split}
use borrow.Rule.Slice.PartMut.{put_mid}
use Rattle.text.specs.Put.{put, Written}

-- `put` as it is defined, for a proof in which it stays shut elsewhere
pub put_is : (l : List ℕ) (at : ℕ) (t : List ℕ) → put l at t ≡ take at l ++ (t ++ drop (at + length t) l)
unfolding put
put_is l at t = refl

-- ---- the list as a whole

pub put-length : (l : List ℕ) (at : ℕ) (t : List ℕ) → at + length t ≤ length l → length (put l at t) ≡ length l
unfolding put
put-length l at t h = simp (length-append, length-take, length-drop) (omega arith)

pub put-nil : (l : List ℕ) (at : ℕ) → put l at [] ≡ l
unfolding put
put-nil l at = rw (add-zero, take-append-drop)

pub put_front : (l t : List ℕ) → put l 0 t ≡ t ++ drop (length t) l
unfolding put
put_front l t = rw zero-add

-- ---- its parts, before, in and after the piece

pub take-put-before : (l : List ℕ) (at : ℕ) (t : List ℕ) (n : ℕ) → n ≤ at → at ≤ length l → take n (put l at t) ≡ take n l
unfolding put
take-put-before l at t n k h =
    take-append-le n (take at l) (t ++ drop (at + length t) l) (simp length-take (omega arith)) ∙ take-take n at l k

pub take_put : (l : List ℕ) (at : ℕ) (t : List ℕ) → at ≤ length l → take (at + length t) (put l at t) ≡ take at l ++ t
unfolding put
take_put l at t h =
    rw (← append_assoc)
    (take_at (take at l ++ t) (drop (at + length t) l) (at + length t) (simp (length-append, length-take) (omega arith)))

pub drop-put : (l : List ℕ) (at : ℕ) (t : List ℕ) → at ≤ length l → drop at (put l at t) ≡ t ++ drop (at + length t) l
unfolding put
drop-put l at t h = drop_at (take at l) (t ++ drop (at + length t) l) at (length-take-le at l h)

-- from the end of the piece on
drop-put-end : (l : List ℕ) (at : ℕ) (t : List ℕ) → at ≤ length l → drop (at + length t) (put l at t) ≡ drop (at + length t) l
unfolding put
drop-put-end l at t h =
    rw (← append_assoc)
    (drop_at (take at l ++ t) (drop (at + length t) l) (at + length t) (simp (length-append, length-take) (omega arith)))

pub drop-put-after : (l : List ℕ) (at : ℕ) (t : List ℕ) (n : ℕ) → at + length t ≤ n → at ≤ length l → drop n (put l at t) ≡ drop n l
drop-put-after l at t n k h =
    let past : at + length t + (n - (at + length t)) ≡ n = omega arith in
    subst (λ (i : ℕ). drop i (put l at t) ≡ drop i l) past
    (sym (drop-drop (n - (at + length t)) (at + length t) (put l at t))
    ∙ ap (λ (x : List ℕ). drop (n - (at + length t)) x) (drop-put-end l at t h)
    ∙ drop-drop (n - (at + length t)) (at + length t) l)

pub get_d-put-before : (l : List ℕ) (at : ℕ) (t : List ℕ) (i d : ℕ) → i < at → at ≤ length l → get_or (put l at t) i d ≡ get_or l i d
unfolding put
get_d-put-before l at t i d k h =
    get_or-append (take at l) (t ++ drop (at + length t) l) d i (simp length-take (omega arith)) ∙ get_or-take at l i d k

pub get_d-put : (l : List ℕ) (at : ℕ) (t : List ℕ) (i d : ℕ) → i < length t → at ≤ length l → get_or (put l at t) (at + i) d ≡ get_or t i d
get_d-put l at t i d k h =
    sym (get_or-drop at (put l at t) i d) ∙ rw drop-put (get_or-append t (drop (at + length t) l) d i k)

pub get_d-put-after : (l : List ℕ) (at : ℕ) (t : List ℕ) (i d : ℕ) → at + length t ≤ i → at ≤ length l → get_or (put l at t) i d ≡ get_or l i d
get_d-put-after l at t i d k h =
    subst (λ (j : ℕ). get_or (put l at t) j d ≡ get_or l j d) (add-zero i)
    (rw (← get_or-drop i (put l at t), ← get_or-drop i l, drop-put-after))

-- ---- two pieces

-- one after the other are one
pub put-put : (l : List ℕ) (at : ℕ) (t u : List ℕ) → at ≤ length l → put (put l at t) (at + length t) u ≡ put l at (t ++ u)
put-put l at t u h =
    let past : at + length t ≤ at + length t + length u = omega arith in
    rw (put_is (put l at t) (at + length t) u, put_is l at (t ++ u), take_put, drop-put-after)
    (simp (append_assoc, length-append, add_assoc))

-- and so they are where the second is written first
pub put-put-back : (l : List ℕ) (at : ℕ) (t u : List ℕ) → at + length t ≤ length l → put (put l (at + length t) u) at t ≡ put l at (t ++ u)
put-put-back l at t u h =
    let fore : at ≤ at + length t = omega arith in
    rw (put_is (put l (at + length t) u) at t, put_is l at (t ++ u), take-put-before, drop-put)
    (simp (append_assoc, length-append, add_assoc))

-- ---- a store is a piece of one byte

pub set-put : (l : List ℕ) (at b : ℕ) → at < length l → set l at b ≡ put l at (b ∷ [])
unfolding put
set-put l at b h = rw (add-one, set_split)

-- the byte after a piece
pub put-set : (l : List ℕ) (at : ℕ) (t : List ℕ) (b : ℕ) → at + length t < length l → set (put l at t) (at + length t) b ≡ put l at (t ++ (b ∷ []))
put-set l at t b h =
    set-put (put l at t) (at + length t) b (rw (put-length l at t (omega arith)) h) ∙ put-put l at t (b ∷ []) (omega arith)

-- the byte before a piece
pub put-cons : (l : List ℕ) (at : ℕ) (t : List ℕ) (b : ℕ) → at + 1 + length t ≤ length l → set (put l (at + 1) t) at b ≡ put l at (b ∷ t)
put-cons l at t b h =
    set-put (put l (at + 1) t) at b (rw (put-length l (at + 1) t h) (omega arith)) ∙ put-put-back l at (b ∷ []) t (omega arith)

-- a part of the list that is overwritten
pub put_part : (l : List ℕ) (at : ℕ) (t : List ℕ) → put_mid at (at + length t - at) l t ≡ put l at t
unfolding put
put_part l at t = let all : at + length t - at ≡ length t = omega arith in rw (all, drop-drop)

-- ---- what a writer ensures

module _ {l m : List ℕ} {at r : ℕ} {t : List ℕ} where
  pub written-length : Written l at t r m → at + length t ≤ length l → length m ≡ length l
  written-length w h = ap length w.text ∙ put-length l at t h

  -- two writers, one after the other, are one
  pub written_then : {u n : List ℕ} {s : ℕ} → Written l at t r m → Written m r u s n → at ≤ length l → Written l at (t ++ u) s n
  written_then {u} w v h = record { next = simp length-append (omega arith); text = cc (put-put l at t u h) }

-- nothing is written yet
pub written_none : (l : List ℕ) (at : ℕ) → Written l at [] at l
written_none l at = record { next = sym (add-zero at); text = sym (put-nil l at) }

-- of text that starts the buffer, the first r bytes are all
pub written-front : {l m t : List ℕ} {r : ℕ} → Written l 0 t r m → take r m ≡ t
written-front {l} {t = t} w =
    rw (w.text, w.next) (take_put l 0 t zero-le)
