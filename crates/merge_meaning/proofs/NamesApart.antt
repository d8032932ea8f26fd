-- No name in both directories: a name of the one is none of the other's.
use Prim.Native.Nat.{ℕ}
use mathlib.Core.Path.{◌≡◌}
use mathlib.Core.Bool.{not}
use mathlib.Core.List.{List}
use lib.Dec.{T, eqb, eqb→eq, T_not, not_T}
use Rattle.words.specs.Base.{member}
use Rattle.words.proofs.TestParts.{and_both}
use Rattle.library.specs.Each.{Each}
use Rattle.library.specs.Library.{purged}
use Rattle.library.proofs.AnyAndAll.{each_member}
use Rattle.library.specs.Library.{has_name}

abbrev pub Apart : List ℕ → List ℕ → Type 0
Apart first second = Each (λ w. T (not (has_name first w))) second

pub not_first : (first second : List ℕ) → Apart first second → (w : ℕ) → (w ≡ purged → ⊥) → T (member w second) → T (not (member w first))
not_first first second a w ne t =
    not_T (member w first)
    (λ u. T_not (has_name first w) (each_member (λ x. T (not (has_name first x))) second w t a) (and_both (member w first) (not (eqb w purged)) u (not_T (eqb w purged) (λ e. ne (eqb→eq w purged e)))))
