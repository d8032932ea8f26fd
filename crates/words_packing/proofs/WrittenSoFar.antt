-- What is written of a space so far and what is still to come make the whole, and the rest is as it was.
--   Filling, fill_more, fill-set, fill-two, fill_end
use mathlib.Core.Path.{◌≡◌, refl, sym, ap, ◌∙◌}
use mathlib.Core.List.{List, [], ◌∷◌, ◌++◌, append_assoc, append-nil}
use Prim.Native.Nat.{ℕ, ◌+◌, ◌≤◌, ◌<◌}
use native.Mathlib.Numerals.{add-one}
use native.Mathlib.Omega.{arith}
use lib.ListN.{length, take, drop, set, length-append, length-set, length-drop, take-append-drop}
use lib.Seq.{length-take-le, take_at, drop_at, drop-drop, set_split}

-- `at` elements of a space are written, and `rest` is still to come
pub record Filling (whole rest space new : List ℕ) (at : ℕ) : Type 0 where
  pub done : take at new ++ rest ≡ whole
  pub kept : drop at new ≡ drop at space
  pub long : length new ≡ length space

module _ {whole space new : List ℕ} {at : ℕ} where
  -- n more at once
  pub fill_more : {rest : List ℕ} (p : List ℕ) (n : ℕ) → Filling whole (p ++ rest) space new at → length p ≡ n → at + n ≤ length new
      → Filling whole rest space (take at new ++ (p ++ drop (at + n) new)) (at + n)
  fill_more p n f l h =
      let k : length (take at new) ≡ at = length-take-le at new (omega arith) in
      let seam : length (take at new ++ p) ≡ at + n = rw length-append (omega arith) in
      let split : take at new ++ (p ++ drop (at + n) new) ≡ (take at new ++ p) ++ drop (at + n) new = rw append_assoc in
      record {
        done = rw (split, take_at (take at new ++ p) (drop (at + n) new) (at + n) seam, append_assoc) f.done;
        kept =
            rw (split, drop_at (take at new ++ p) (drop (at + n) new) (at + n) seam)
            (sym (drop-drop n at new) ∙ ap (λ (l : List ℕ). drop n l) f.kept ∙ drop-drop n at space);
        long = rw (split, length-append, length-drop) (omega (arith, f.long));
      }

  -- one more
  pub fill-set : {rest : List ℕ} (x : ℕ) → Filling whole (x ∷ rest) space new at → at < length new → Filling whole rest space (set new at x) (at + 1)
  fill-set x f h = rw (set_split new at x h, ← add-one at) (fill_more (x ∷ []) 1 f refl (omega arith))

  pub fill_end : Filling whole [] space new at → new ≡ whole ++ drop at space
  fill_end f =
      sym (take-append-drop at new) ∙ ap (λ (l : List ℕ). take at new ++ l) f.kept
      ∙ ap (λ (l : List ℕ). l ++ drop at space) (sym (append-nil (take at new)) ∙ f.done)

-- two more
pub fill-two : {whole rest space new : List ℕ} {at : ℕ} (x y : ℕ) → Filling whole (x ∷ y ∷ rest) space new at → at + 2 ≤ length new
    → Filling whole rest space (set (set new at x) (at + 1) y) (at + 2)
fill-two {new = new} {at = at} x y f h =
    let k : at + 1 + 1 ≡ at + 2 = omega arith in
    rw k at (fill-set y (fill-set x f (omega arith)) (rw length-set (omega arith)))
