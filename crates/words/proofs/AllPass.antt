-- A test on every element of a list, from the front: the rest decides as long as all passed. Assumes nothing.
use Prim.Native.Nat.{ℕ, ◌+◌, ◌≤◌, ◌<◌}
use native.Mathlib.Numerals.{add-one}
use mathlib.Core.Path.{◌≡◌, refl}
use mathlib.Core.Bool.{Bool, true, false}
use mathlib.Core.List.{List, [], ◌∷◌}
use lib.ListN.{length, drop, get_or, drop_of_length-le}
use lib.Seq.{drop-cons}
use Rattle.std.specs.List.{list_all}
use Rattle.words.specs.Base.{all}

module _ (p : ℕ → Bool) (s : List ℕ) (i : ℕ) where
  pub passes : i < length s → p (get_or s i 0) ≡ true → all p (drop (i + 1) s) ≡ all p (drop i s)
  passes h e = rw (add-one, drop-cons s i 0 h, e)

  pub stops : i < length s → p (get_or s i 0) ≡ false → all p (drop i s) ≡ false
  stops h e = rw (drop-cons s i 0 h, e)

  pub passed-all : length s ≤ i → all p (drop i s) ≡ true
  passed-all h = rw (drop_of_length-le s h)

-- as a chain of iterators says it
pub all-same : {A : Type 0} (p : A → Bool) (xs : List A) → list_all p xs ≡ all p xs
all-same p [] = refl
all-same p (x ∷ xs) = rw (all-same p xs)
