-- Unused bytes say nothing of a card's activity. Assumes nothing.
use Rattle.std.specs.Prelude.{if◌then◌else◌}
use Prim.Native.Nat.{ℕ, ◌/◌, ◌%◌, ◌^◌}
use mathlib.Core.Path.{◌≡◌, refl, sym, ap, ◌∙◌}
use mathlib.Core.Bool.{Bool, true, false, ◌&&◌}
use mathlib.Core.List.{List, [], ◌∷◌}
use lib.Dec.{eqb}
use Rattle.words.specs.Base.{is_nil}
use Rattle.library.specs.Check.{used}
use Rattle.library_yanks.specs.Bytes.{say_byte, say_all}

module _ (yk : ℕ → Bool) where
  say-zero : (so : Bool) (x : ℕ) → eqb x 0 ≡ true → say_byte yk so x ≡ so
  say-zero so x z = ap (λ (b : Bool). if b then so else if yk (x % 2 ^ 16) then so else eqb (x / 2 ^ 16 % 2) 1) z

  pub say-used : (so : Bool) (xs : List ℕ) → say_all yk so (used xs) ≡ say_all yk so xs
  say-used so [] = refl
  say-used so (x ∷ xs) = go (eqb x 0) refl (used xs) refl (λ o. say-used o xs)
    where
      go : (b : Bool) → eqb x 0 ≡ b → (u : List ℕ) → used xs ≡ u → ((o : Bool) → say_all yk o (used xs) ≡ say_all yk o xs)
          → say_all yk so (if b && is_nil u then [] else (x ∷ u)) ≡ say_all yk (say_byte yk so x) xs
      go true z [] e ih = ap (say_all yk so) (sym e) ∙ ih so ∙ ap (λ (o : Bool). say_all yk o xs) (sym (say-zero so x z))
      go true z (v ∷ u) e ih = ap (say_all yk (say_byte yk so x)) (sym e) ∙ ih (say_byte yk so x)
      go false z u e ih = ap (say_all yk (say_byte yk so x)) (sym e) ∙ ih (say_byte yk so x)
