-- A list with one element more, anywhere: what holds of each, how long it is, that no two are alike.
use Prim.Native.Nat.{ℕ, zero, suc}
use mathlib.Core.Path.{◌≡◌, refl, ap}
use mathlib.Core.Bool.{Bool, not}
use mathlib.Core.List.{List, [], ◌∷◌, ◌++◌}
use lib.Dec.{T, T_not, not_T}
use lib.ListN.{length, take, drop}
use Rattle.words.specs.Base.{any}
use Rattle.words.proofs.TestParts.{and_both}
use Rattle.library.specs.Each.{Each}
use Rattle.library.specs.Sound.{no_two}
use Rattle.library.proofs.EachTest.{and_parts}
use Rattle.library.proofs.NoTwo.{any_none, none_any}

pub data Inserted {A : Type 0} (y : A) : List A → List A → Type 0 where
  put : {xs : List A} → Inserted y xs (y ∷ xs)
  past : {x : A} {xs ys : List A} → Inserted y xs ys → Inserted y (x ∷ xs) (x ∷ ys)

module _ {A : Type 0} (y : A) where
  pub inserted-each : (P : A → Type 0) {xs ys : List A} → Inserted y xs ys → P y → Each P xs → Each P ys
  inserted-each P put p h = (p, h)
  inserted-each P (past r) p h = (h.0, inserted-each P r p h.1)

  pub inserted-length : {xs ys : List A} → Inserted y xs ys → length ys ≡ suc (length xs)
  inserted-length put = refl
  inserted-length (past r) = ap suc (inserted-length r)

  pub inserted-right : (zs : List A) {xs ys : List A} → Inserted y xs ys → Inserted y (xs ++ zs) (ys ++ zs)
  inserted-right zs put = put
  inserted-right zs (past r) = past (inserted-right zs r)

  pub inserted-left : (zs : List A) {xs ys : List A} → Inserted y xs ys → Inserted y (zs ++ xs) (zs ++ ys)
  inserted-left [] r = r
  inserted-left (z ∷ zs) r = past (inserted-left zs r)

  pub inserted-at : (i : ℕ) (xs : List A) → Inserted y xs (take i xs ++ (y ∷ drop i xs))
  inserted-at zero xs = put
  inserted-at (suc i) [] = put
  inserted-at (suc i) (x ∷ xs) = past (inserted-at i xs)

  pub inserted-end : (xs : List A) → Inserted y xs (xs ++ (y ∷ []))
  inserted-end [] = put
  inserted-end (x ∷ xs) = past (inserted-end xs)

  module _ (alike : A → A → Bool) (turn : (a b : A) → T (alike a b) → T (alike b a)) where
    pub inserted-no-two : {xs ys : List A} → Inserted y xs ys → Each (λ x. T (not (alike y x))) xs → T (no_two alike xs) → T (no_two alike ys)
    inserted-no-two (put {xs}) h t = and_both (not (any (alike y) xs)) (no_two alike xs) (none_any (alike y) xs h) t
    inserted-no-two (past {x} {xs} {ys} r) h t =
        let q : T (not (any (alike x) xs)) × T (no_two alike xs) = and_parts (not (any (alike x) xs)) (no_two alike xs) t in
        let n : T (not (alike x y)) = not_T (alike x y) (λ u. T_not (alike y x) h.0 (turn x y u)) in
        and_both (not (any (alike x) ys)) (no_two alike ys)
        (none_any (alike x) ys (inserted-each (λ z. T (not (alike x z))) r n (any_none (alike x) xs q.0)))
        (inserted-no-two r h.1 q.1)
