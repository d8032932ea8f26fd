-- A list split at the elements that pass a test, and a question put to each part. Assumes nothing.
--   the parts from a place on     parts_from, parts_none, parts-here, parts_more, part-fits
--   in the library's words        split-slice, any-list, all-list, same-bytes
use Rattle.std.specs.Prelude.{cond, if◌then◌else◌}
use Rattle.std.specs.List.{list_any, list_all, slice_split, onto_first}
use Rattle.std.specs.Cmp.Lexicographic.{pointwise}
use lib.Dec.{eqb}
use mathlib.Core.Path.{◌≡◌, refl, ap, ◌∙◌}
use mathlib.Core.Bool.{Bool, true, false}
use mathlib.Core.List.{List, [], ◌∷◌}
use Prim.Native.Nat.{ℕ, zero, suc, ◌+◌, ◌≤◌, ◌<◌}
use native.Mathlib.Nat.{zero-add, add-zero, suc-add}
use native.Mathlib.Omega.{arith}
use lib.ListN.{length, drop, length-drop}
use Rattle.words.specs.Base.{any, all, same, take_until, into, split}
use Rattle.words_lines.proofs.CutAtFirst.{reach-within}
use Rattle.words_lines.proofs.FieldPlaces.{eqb_comm}

-- the parts from a place on: none past the end
abbrev pub parts_from : (ℕ → Bool) → ℕ → List ℕ → List (List ℕ)
parts_from p zero s = split p s
parts_from p (suc n) [] = []
parts_from p (suc n) (x ∷ xs) = parts_from p n xs

module _ (p : ℕ → Bool) where
  pub parts_none : (n : ℕ) (s : List ℕ) → length s < n → parts_from p n s ≡ []
  parts_none zero s h = absurd (omega arith)
  parts_none (suc n) [] h = refl
  parts_none (suc n) (x ∷ xs) h = parts_none n xs (omega arith)

  parts-drop : (n k : ℕ) (s : List ℕ) → n ≤ length s → parts_from p (n + k) s ≡ parts_from p k (drop n s)
  parts-drop zero k s h = rw zero-add
  parts-drop (suc n) k [] h = absurd (omega arith)
  parts-drop (suc n) k (x ∷ xs) h = rw suc-add (parts-drop n k xs (omega arith))

  pub parts-here : (at : ℕ) (s : List ℕ) → at ≤ length s → parts_from p at s ≡ split p (drop at s)
  parts-here at s inside = rw add-zero at (parts-drop at 0 s inside)

  split-first : (s : List ℕ) → split p s ≡ take_until p s ∷ parts_from p (length (take_until p s) + 1) s
  split-first [] = refl
  split-first (x ∷ xs) = by-test (p x) (split-first xs)
    where
      by-test : (t : Bool) → split p xs ≡ take_until p xs ∷ parts_from p (length (take_until p xs) + 1) xs
          → (if t then ([] ∷ split p xs) else into x (split p xs))
          ≡ (if t then [] else (x ∷ take_until p xs)) ∷ parts_from p (length (if t then [] else (x ∷ take_until p xs)) + 1) (x ∷ xs)
      by-test true e = refl
      by-test false e = ap (into x) e ∙ rw suc-add

  -- the part at a place, and those from the place after its end
  module _ (at : ℕ) (s : List ℕ) (inside : at ≤ length s) (part : List ℕ) (is : part ≡ take_until p (drop at s)) where
    pub part-fits : at + length part ≤ length s
    part-fits = rw is (omega (arith, reach-within p (drop at s), length-drop at s))

    pub parts_more : parts_from p at s ≡ part ∷ parts_from p (at + (length part + 1)) s
    parts_more =
        let here : parts_from p at s ≡ split p (drop at s) = parts-here at s inside in
        rw (here, parts-drop at (length part + 1) s inside, is) (split-first (drop at s))

-- IN THE LIBRARY'S WORDS
module _ {A : Type 0} (p q : A → Bool) (equal : (x : A) → p x ≡ q x) where
  pub any-list : (xs : List A) → list_any p xs ≡ any q xs
  any-list [] = refl
  any-list (x ∷ xs) = rw (equal x, any-list xs)

  pub all-list : (xs : List A) → list_all p xs ≡ all q xs
  all-list [] = refl
  all-list (x ∷ xs) = rw (equal x, all-list xs)

onto-into : (x : ℕ) (ls : List (List ℕ)) → onto_first x ls ≡ into x ls
onto-into x [] = refl
onto-into x (l ∷ ls) = refl

pub split-slice : (p q : ℕ → Bool) → ((x : ℕ) → p x ≡ q x) → (s : List ℕ) → slice_split p s ≡ split q s
split-slice p q equal [] = refl
split-slice p q equal (x ∷ xs) = rw (equal x, split-slice p q equal xs) (by-test (q x))
  where
    by-test : (t : Bool) → cond t ([] ∷ split q xs) (onto_first x (split q xs)) ≡ if t then ([] ∷ split q xs) else into x (split q xs)
    by-test true = refl
    by-test false = onto-into x (split q xs)

pub same-bytes : (a b : List ℕ) → pointwise eqb a b ≡ same b a
same-bytes [] [] = refl
same-bytes [] (y ∷ ys) = refl
same-bytes (x ∷ xs) [] = refl
same-bytes (x ∷ xs) (y ∷ ys) = rw (eqb_comm x y, same-bytes xs ys)
