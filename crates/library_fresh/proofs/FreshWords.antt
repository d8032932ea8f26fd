-- The fresh library's three words are put into a space, or it has no room for them. Assumes nothing.
use Prim.Native.Nat.{ℕ, ◌≤◌, ◌<◌}
use native.Mathlib.Omega.{arith}
use mathlib.Core.Path.{◌≡◌, refl, sym, ap, ◌∙◌}
use mathlib.Core.List.{List, [], ◌∷◌, ◌++◌}
use borrow.Author.Tests.{lt-ltb, le-ltb}
use lib.ListN.{length, set, drop}
use Rattle.library.specs.Library.{fresh, reserved, deck_names}
use Rattle.library.specs.Yanks.{yanked}
use Rattle.library.specs.Image.{header, encode}
use Rattle.library_fresh.specs.Fresh.{freshing, fresh_into}
use Rattle.std.specs.Prelude.{None, Some}

fresh-words : encode fresh ≡ header ∷ 1 ∷ reserved ∷ []
unfolding encode deck_names yanked
fresh-words = refl

module _ (s : List ℕ) where
  pub fresh-short : length s < 3 → (None ≡ freshing (length s)) × (s ≡ fresh_into s)
  unfolding freshing
  fresh-short h = rw (fresh-words, lt-ltb (length s) 3 h) (refl, refl)

three : (s : List ℕ) (a b c : ℕ) → 3 ≤ length s → set (set (set s 0 a) 1 b) 2 c ≡ a ∷ b ∷ c ∷ drop 3 s
three [] a b c h = absurd (omega arith)
three (x ∷ []) a b c h = absurd (omega arith)
three (x ∷ y ∷ []) a b c h = absurd (omega arith)
three (x ∷ y ∷ z ∷ s) a b c h = refl

pub fresh-put : (s : List ℕ) (a c : ℕ) → 3 ≤ length s → a ≡ header → c ≡ reserved
    → (Some 3 ≡ freshing (length s)) × (set (set (set s 0 a) 1 1) 2 c ≡ fresh_into s)
unfolding freshing
fresh-put s a c h ea ec = rw (fresh-words, le-ltb (length s) 3 h) (refl, three s a 1 c h ∙ (λ i. ea i ∷ 1 ∷ ec i ∷ drop 3 s) ∙ ap (λ (w : List ℕ). w ++ drop 3 s) (sym fresh-words))
