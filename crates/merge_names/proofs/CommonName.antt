-- An entry has a number just where the directory has its name.
use Rattle.std.specs.Prelude.{not, if◌then◌else◌}
use Prim.Native.Nat.{ℕ, suc}
use native.Mathlib.Omega.{arith}
use mathlib.Core.Path.{◌≡◌, refl, sym}
use mathlib.Core.Bool.{Bool, true, false, ◌||◌}
use mathlib.Core.List.{List, [], ◌∷◌}
use borrow.Author.Tests.{ne_eqb}
use lib.Dec.{eqb}
use Rattle.words.specs.Base.{member}
use Rattle.words.proofs.TestParts.{and-true}
use Rattle.library.specs.Library.{purged, entry_from, entry_of, has_name}

from-member : (w n : ℕ) (xs : List ℕ) → not (eqb (entry_from w (suc n) xs) 0) ≡ member w xs
from-member w n [] = refl
from-member w n (x ∷ xs) = go (eqb w x) (from-member w (suc n) xs)
  where
    go : (b : Bool) → not (eqb (entry_from w (suc (suc n)) xs) 0) ≡ member w xs → not (eqb (if b then suc n else entry_from w (suc (suc n)) xs) 0) ≡ (b || member w xs)
    go true h = rw (ne_eqb (suc n) 0 (λ e. omega arith))
    go false h = h

pub numbered : (d : List ℕ) (w : ℕ) → (w ≡ purged → ⊥) → not (eqb (entry_of d w) 0) ≡ has_name d w
unfolding entry_of
numbered d w p = rw (ne_eqb w purged p, from-member w 0 d) (sym (and-true (member w d)))
