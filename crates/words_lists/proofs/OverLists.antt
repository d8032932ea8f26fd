-- One list over another, where it fits, where it does not. Assumes nothing.
--   over-put, over_none    over is put_at, or nothing; over-all from the beginning on
--   over-part              a part written over in place
--   put-after, put_then    put where others end, and one after another; over-then
--   head-two               over the first two
use Prim.Native.Nat.{ℕ, ◌+◌, ◌-◌, ◌≤◌, ◌<◌}
use native.Mathlib.Omega.{arith}
use native.Mathlib.Nat.{zero-add}
use mathlib.Core.Path.{◌≡◌, refl, sym, ap, ap₂, ◌∙◌}
use mathlib.Core.List.{List, [], ◌∷◌, ◌++◌, append_assoc}
use borrow.Author.Tests.{le-leb, lt-leb}
use lib.ListN.{length, take, drop, set, length-append, length-drop}
use borrow.Rule.Slice.PartMut.{put_mid}
use Rattle.std.proofs.lemmas.Slice.{put_mid-paste}
use lib.Seq.{take-length, take_at, drop-drop, drop-append-add, length-take-le}
use Rattle.words_lists.specs.Over.{put_at, over}

module _ {A : Type 0} (at : ℕ) (xs ys : List A) where
  pub over-put : at + length xs ≤ length ys → over at xs ys ≡ put_at at xs ys
  unfolding over
  over-put h = rw (le-leb (at + length xs) (length ys) h)

  pub over_none : length ys < at + length xs → over at xs ys ≡ ys
  unfolding over
  over_none h = rw (lt-leb (at + length xs) (length ys) h)

  -- a part written over in place
  pub over-part : at + length xs ≤ length ys → put_mid at (at + length xs - at) ys xs ≡ over at xs ys
  over-part h =
      put_mid-paste at (at + length xs - at) ys xs xs (length xs) refl (omega arith) refl
      ∙ ap (λ (v : List A). take at ys ++ v ++ drop (at + length xs) ys) (take-length xs)
      ∙ sym (over-put h)

-- from the beginning on
pub over-all : {A : Type 0} (xs ys : List A) → length xs ≤ length ys → over 0 xs ys ≡ xs ++ drop (length xs) ys
over-all xs ys h = over-put 0 xs ys (omega arith) ∙ ap (λ (i : ℕ). xs ++ drop i ys) (zero-add (length xs))

-- AFTER OTHERS: p stands at the beginning
pub put-after : {A : Type 0} (p e s : List A) (at : ℕ) → length p ≡ at → put_at at s (p ++ drop at e) ≡ (p ++ s) ++ drop (at + length s) e
put-after {A} p e s at q =
    ap₂ (λ (x y : List A). (x ++ s) ++ y) (take_at p (drop at e) at q)
    (ap (λ (i : ℕ). drop (i + length s) (p ++ drop at e)) (sym q) ∙ drop-append-add p (drop at e) (length s) ∙ drop-drop (length s) at e)

pub put_then : {A : Type 0} (at : ℕ) (xs ys e : List A) → at + length xs ≤ length e → put_at (at + length xs) ys (put_at at xs e) ≡ put_at at (xs ++ ys) e
put_then {A} at xs ys e le =
    let long : length (take at e ++ xs) ≡ at + length xs = length-append (take at e) xs ∙ ap (λ (n : ℕ). n + length xs) (length-take-le at e (omega arith)) in
    let both : at + length xs + length ys ≡ at + length (xs ++ ys) = omega (arith, length-append xs ys) in
    put-after (take at e ++ xs) e ys (at + length xs) long
    ∙ ap₂ (λ (a : List A) (n : ℕ). a ++ drop n e) (append_assoc (take at e) xs ys) both

put-long : {A : Type 0} (at : ℕ) (xs e : List A) → at + length xs ≤ length e → length (put_at at xs e) ≡ length e
put-long at xs e le =
    omega (arith, length-append (take at e ++ xs) (drop (at + length xs) e), length-append (take at e) xs, length-take-le at e (omega arith), length-drop (at + length xs) e)

pub over-then : {A : Type 0} (at : ℕ) (xs ys e : List A) → at + length xs + length ys ≤ length e → over (at + length xs) ys (over at xs e) ≡ put_at at (xs ++ ys) e
over-then at xs ys e le =
    ap (over (at + length xs) ys) (over-put at xs e (omega arith))
    ∙ over-put (at + length xs) ys (put_at at xs e) (omega (arith, put-long at xs e (omega arith)))
    ∙ put_then at xs ys e (omega arith)

-- two elements over the first two
pub head-two : (e : List ℕ) (h x : ℕ) → 1 < length e → set (set e 0 h) 1 x ≡ h ∷ x ∷ drop 2 e
head-two [] h x lt = absurd (omega arith)
head-two (a ∷ []) h x lt = absurd (omega arith)
head-two (a ∷ (b ∷ e)) h x lt = refl
