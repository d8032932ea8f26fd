-- Tests taken apart: what `&&`, `||`, `all` and `same` say of their parts. Assumes nothing.
use Prim.Native.Nat.{ℕ}
use mathlib.Core.Path.{◌≡◌, refl, sym, ap₂, subst}
use mathlib.Core.Bool.{Bool, true, false, ◌&&◌, ◌||◌, not}
use mathlib.Core.List.{List, [], ◌∷◌, ◌++◌}
use lib.Dec.{T, eqb, eqb→eq, eqb_refl}
use Rattle.words.specs.Base.{all, same}

pub T-true : (b : Bool) → T b → b ≡ true
T-true true t = refl
T-true false t = absurd t

pub true-T : (b : Bool) → b ≡ true → T b
true-T b e = subst (λ (c : Bool). T c) (sym e) tt

pub and_left : (a b : Bool) → T (a && b) → T a
and_left true b t = tt
and_left false b t = t

pub and_right : (a b : Bool) → T (a && b) → T b
and_right true b t = t
and_right false b t = absurd t

pub and_both : (a b : Bool) → T a → T b → T (a && b)
and_both true b s t = t
and_both false b s t = s

module _ {A : Type 0} (p : A → Bool) where
  pub all_append : (xs ys : List A) → T (all p xs) → T (all p ys) → T (all p (xs ++ ys))
  all_append [] ys s t = t
  all_append (x ∷ xs) ys s t = and_both (p x) (all p (xs ++ ys)) (and_left (p x) (all p xs) s) (all_append xs ys (and_right (p x) (all p xs) s) t)

pub and-true : (a : Bool) → (a && true) ≡ a
and-true true = refl
and-true false = refl

pub and-false : (a : Bool) → (a && false) ≡ false
and-false true = refl
and-false false = refl

pub or-true : (a : Bool) → (a || true) ≡ true
or-true true = refl
or-true false = refl

pub or-false : (a : Bool) → (a || false) ≡ a
or-false true = refl
or-false false = refl

pub or_assoc : (a b c : Bool) → ((a || b) || c) ≡ (a || (b || c))
or_assoc true b c = refl
or_assoc false b c = refl

pub not-true : (b : Bool) → T (not b) → b ≡ false
not-true true t = absurd t
not-true false t = refl

pub not-not : (b : Bool) → T (not (not b)) → T b
not-not true t = tt
not-not false t = absurd t

-- two tests that pass together are one
pub bool_iff : (a b : Bool) → (T a → T b) → (T b → T a) → a ≡ b
bool_iff true true f g = refl
bool_iff true false f g = absurd (f tt)
bool_iff false true f g = absurd (g tt)
bool_iff false false f g = refl

pub eqb-turn : (v w : ℕ) → T (eqb v w) → T (eqb w v)
eqb-turn v w t = subst (λ (x : ℕ). T (eqb w x)) (sym (eqb→eq v w t)) (eqb_refl w)

pub same_refl : (xs : List ℕ) → T (same xs xs)
same_refl [] = tt
same_refl (x ∷ xs) = and_both (eqb x x) (same xs xs) (eqb_refl x) (same_refl xs)

pub same-eq : (xs ys : List ℕ) → T (same xs ys) → xs ≡ ys
same-eq [] [] t = refl
same-eq [] (y ∷ ys) t = absurd t
same-eq (x ∷ xs) [] t = absurd t
same-eq (x ∷ xs) (y ∷ ys) t =
    ap₂ {C = List ℕ} ◌∷◌ (eqb→eq x y (and_left (eqb x y) (same xs ys) t)) (same-eq xs ys (and_right (eqb x y) (same xs ys) t))
