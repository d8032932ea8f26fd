-- A list cut at the first element that passes a test, found place by place. Assumes nothing.
--   how far it is                      reach-within, reach-position
--   what is ahead, from there, beyond  take-reach, drop-reach; part-ahead, part-from, tail-beyond, tail-end
use Rattle.std.specs.Prelude.{Some, None, cond, unwrap_or, position, if◌then◌else◌}
use Rattle.std.specs.List.{position_or_len}
use Rattle.std.proofs.lemmas.List.Recursion.{is_position_or_len}
use borrow.Author.Tests.{ltb-false}
use lib.Dec.{ltb}
use mathlib.Core.Path.{◌≡◌, refl, sym, ap, ◌∙◌}
use mathlib.Core.Bool.{Bool, true, false}
use mathlib.Core.List.{List, [], ◌∷◌}
use Prim.Native.Nat.{ℕ, suc, ◌+◌, ◌-◌, ◌≤◌, zero-le, suc-le-suc}
use native.Mathlib.Omega.{arith}
use lib.ListN.{length, take, drop, length-drop, drop_of_length-le}
use lib.Seq.{drop-drop, take_all}
use Rattle.words.specs.Base.{take_until, drop_until, beyond}

all_left : (s : List ℕ) (e : ℕ) → take (length s - e) (drop e s) ≡ drop e s
all_left s e = take_all (length s - e) (drop e s) (rw length-drop (omega arith))

module _ (p : ℕ → Bool) where
  pub reach-within : (s : List ℕ) → length (take_until p s) ≤ length s
  reach-within [] = zero-le
  reach-within (x ∷ xs) = by-test (p x) (reach-within xs)
    where
      by-test : (t : Bool) → length (take_until p xs) ≤ length xs → length (if t then [] else (x ∷ take_until p xs)) ≤ suc (length xs)
      by-test true h = zero-le
      by-test false h = suc-le-suc h

  -- what is ahead of the place, and what is from there on
  take-reach : (s : List ℕ) → take (length (take_until p s)) s ≡ take_until p s
  take-reach [] = refl
  take-reach (x ∷ xs) = by-test (p x) (take-reach xs)
    where
      by-test : (t : Bool) → take (length (take_until p xs)) xs ≡ take_until p xs
          → take (length (if t then [] else (x ∷ take_until p xs))) (x ∷ xs) ≡ if t then [] else (x ∷ take_until p xs)
      by-test true e = refl
      by-test false e = ap {B = List ℕ} (λ r. x ∷ r) e

  pub drop-reach : (s : List ℕ) → drop (length (take_until p s)) s ≡ drop_until p s
  drop-reach [] = refl
  drop-reach (x ∷ xs) = by-test (p x) (drop-reach xs)
    where
      by-test : (t : Bool) → drop (length (take_until p xs)) xs ≡ drop_until p xs
          → drop (length (if t then [] else (x ∷ take_until p xs))) (x ∷ xs) ≡ if t then (x ∷ xs) else drop_until p xs
      by-test true e = refl
      by-test false e = e

  -- the place that the library's search gives
  first-place : (s : List ℕ) → length (take_until p s) ≡ position_or_len p s
  first-place = is_position_or_len (λ s. length (take_until p s)) p refl by-test
    where
      by-test : (x : ℕ) (xs : List ℕ) → length (take_until p (x ∷ xs)) ≡ cond (p x) 0 (1 + length (take_until p xs))
      by-test x xs = by-bool (p x)
        where
          by-bool : (t : Bool) → length (if t then [] else (x ∷ take_until p xs)) ≡ cond t 0 (1 + length (take_until p xs))
          by-bool true = refl
          by-bool false = grind arith

  pub reach-position : (s : List ℕ) → unwrap_or (position p s) (length s) ≡ length (take_until p s)
  reach-position s = rw (← first-place s) (or-end (length (take_until p s)) (length s) (reach-within s))
    where
      or-end : (n m : ℕ) → n ≤ m → unwrap_or (cond (ltb n m) (Some n) None) m ≡ n
      or-end n m h = by-bool (ltb n m) refl
        where
          by-bool : (t : Bool) → ltb n m ≡ t → unwrap_or (cond t (Some n) None) m ≡ n
          by-bool true e = refl
          by-bool false e = omega (arith, ltb-false n m e)

  -- the part of s from `at` to the place e
  module _ (s : List ℕ) (at e : ℕ) (place : e ≡ at + length (take_until p (drop at s))) where
    pub part-ahead : take (e - at) (drop at s) ≡ take_until p (drop at s)
    part-ahead =
        let n : e - at ≡ length (take_until p (drop at s)) = omega arith in
        rw n (take-reach (drop at s))

    pub part-from : drop e s ≡ drop_until p (drop at s)
    part-from = rw place (sym (drop-drop _ at s) ∙ drop-reach (drop at s))

    part-beyond : drop (e + 1) s ≡ beyond p (drop at s)
    part-beyond = sym (drop-drop 1 e s) ∙ ap (drop 1) part-from

    pub tail-beyond : take (length s - (e + 1)) (drop (e + 1) s) ≡ beyond p (drop at s)
    tail-beyond = all_left s (e + 1) ∙ part-beyond

    pub tail-end : e ≡ length s → take (length s - e) (drop e s) ≡ beyond p (drop at s)
    tail-end end =
        let here : drop e s ≡ [] = drop_of_length-le s {i = e} (omega arith) in
        let next : drop (e + 1) s ≡ [] = drop_of_length-le s {i = e + 1} (omega arith) in
        all_left s e ∙ here ∙ sym next ∙ part-beyond
