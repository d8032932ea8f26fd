-- What a turn of a sum leaves to be summed gives the same sum. Assumes nothing.
--   a turn      sum-more, sum-none
--   elements    each_byte, each-word
use mathlib.Core.Path.{◌≡◌, refl, ap}
use mathlib.Core.List.{List, [], ◌∷◌, ◌++◌}
use Prim.Native.Nat.{ℕ, suc, ◌+◌, ◌/◌, ◌%◌, ◌<◌}
use native.Mathlib.Numerals.{add-one}
use lib.ListN.{length, drop, get_or}
use lib.Seq.{drop-cons, drop-length}
use Rattle.std.specs.List.{flat_map}
use Rattle.cases_sums.specs.Space.{mixed, sum_from, halves}

sum-join : (sum : ℕ) (xs ys : List ℕ) → sum_from sum (xs ++ ys) ≡ sum_from (sum_from sum xs) ys
unfolding sum_from
sum-join sum [] ys = refl
sum-join sum (x ∷ xs) ys = sum-join (mixed sum x) xs ys

module _ {A : Type 0} (numbers : A → List ℕ) (s : List A) (sum : ℕ) where
  pub sum-more : (i : ℕ) (x : A) → i < length s → x ≡ get_or s i x
      → sum_from sum (flat_map numbers (drop i s)) ≡ sum_from (sum_from sum (numbers x)) (flat_map numbers (drop (i + 1) s))
  sum-more i x h e = rw (add-one, drop-cons s i x h, ← e) (sum-join sum (numbers x) (flat_map numbers (drop (suc i) s)))

  pub sum-none : sum_from sum (flat_map numbers (drop (length s) s)) ≡ sum
  unfolding sum_from
  sum-none = rw drop-length

pub each_byte : (s : List ℕ) → flat_map (λ b. b ∷ []) s ≡ s
each_byte [] = refl
each_byte (b ∷ s) = ap {B = List ℕ} (λ r. b ∷ r) (each_byte s)

pub each-word : (s : List ℕ) → flat_map (λ w. w % 4294967296 ∷ w / 4294967296 ∷ []) s ≡ halves s
unfolding halves
each-word [] = refl
each-word (w ∷ s) = ap {B = List ℕ} (λ r. w % 4294967296 ∷ w / 4294967296 ∷ r) (each-word s)
