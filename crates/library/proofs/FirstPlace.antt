-- The first place of a list that passes a test is found at a place, or looked for one further. Assumes nothing.
--   place_here, place-on, place_none
use Prim.Native.Nat.{ℕ, ◌+◌, ◌≤◌, ◌<◌}
use native.Mathlib.Numerals.{add-one}
use mathlib.Core.Path.{◌≡◌}
use mathlib.Core.Bool.{Bool, true, false}
use mathlib.Core.List.{List}
use mathlib.Core.Option.{none, some}
use lib.ListN.{length, get_or, drop, drop_of_length-le}
use lib.Seq.{drop-cons}
use Rattle.words.specs.Base.{place_from}

module _ (p : ℕ → Bool) (n : ℕ) (ws : List ℕ) (i : ℕ) where
  pub place_here : i < length ws → p (get_or ws i 0) ≡ true → place_from p n (drop i ws) ≡ some n
  place_here h e = rw (drop-cons ws i 0 h, e)

  pub place-on : i < length ws → p (get_or ws i 0) ≡ false → place_from p n (drop i ws) ≡ place_from p (n + 1) (drop (i + 1) ws)
  place-on h e = rw (drop-cons ws i 0 h, e, add-one n, add-one i)

  pub place_none : length ws ≤ i → place_from p n (drop i ws) ≡ none
  place_none h = rw (drop_of_length-le ws h)
