-- A name's number in the directory, by the place of the first entry that has it. Assumes nothing.
use Rattle.std.specs.Prelude.{Option, Some, None, cond, not, ◌==◌, nat_lt, if◌then◌else◌}
use Rattle.std.specs.Option.{option_map_or}
use Rattle.std.specs.List.{position, position_or_len}
use Prim.Native.Nat.{ℕ, ◌+◌, suc}
use Rattle.std.proofs.lemmas.Bool.Decides.{nat_tests}
use native.Mathlib.Omega.{arith}
use mathlib.Core.Path.{◌≡◌, refl, sym, ◌∙◌}
use mathlib.Core.Bool.{Bool, true, false}
use mathlib.Core.List.{List, [], ◌∷◌}
use lib.Dec.{eqb}
use lib.ListN.{length}
use Rattle.library.specs.Library.{entry_from, entry_of}

-- the number from the place
abbrev numbered : Option ℕ → ℕ
numbered o = option_map_or (λ k. k + 1) o 0

-- the test of the search is that of the number
turned : (w x : ℕ) → (x == w) ≡ eqb w x
turned w x = grind (arith, nat_tests)

step : (b : Bool) (i n p later : ℕ) → later ≡ cond (nat_lt p n) (suc i + p) 0
    → (if b then i else later) ≡ cond (nat_lt (cond (not b) (1 + p) 0) (suc n)) (i + cond (not b) (1 + p) 0) 0
step true i n p later h = grind (arith, nat_tests)
step false i n p later h = grind (arith, nat_tests)

first_is : (w i : ℕ) (d : List ℕ) → entry_from w i d ≡ cond (nat_lt (position_or_len (λ x. x == w) d) (length d)) (i + position_or_len (λ x. x == w) d) 0
first_is w i [] = refl
first_is w i (x ∷ xs) = rw (turned w x) (step (eqb w x) i (length xs) (position_or_len (λ y. y == w) xs) (entry_from w (suc i) xs) (first_is w (suc i) xs))

pub entry-position : (w : ℕ) (d : List ℕ) → numbered (position (λ x. x == w) d) ≡ entry_of d w
unfolding entry_of
entry-position w d = go (nat_lt (position_or_len (λ x. x == w) d) (length d)) ∙ sym (first_is w 1 d)
  where
    go : (b : Bool) → numbered (cond b (Some (position_or_len (λ x. x == w) d)) None) ≡ cond b (1 + position_or_len (λ x. x == w) d) 0
    go true = grind arith
    go false = refl
