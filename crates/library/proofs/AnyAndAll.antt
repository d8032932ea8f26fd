-- What `any` and `all` say of a member, and of a list in which none passes.
use Prim.Native.Nat.{ℕ}
use native.Mathlib.Omega.{arith}
use mathlib.Core.Path.{◌≡◌, refl, sym, ap, ap₂, ◌∙◌, subst}
use mathlib.Core.Bool.{Bool, true, false, ◌||◌}
use mathlib.Core.List.{List, [], ◌∷◌, map}
use lib.Dec.{T, eqb, eqb→eq, eqb_refl}
use Rattle.words.proofs.TestParts.{or-true}
use Rattle.words.specs.Base.{any, all, member}
use Rattle.library.specs.Each.{Each}
use Rattle.library.proofs.EachTest.{and_parts}

pub or-either : {A : Type 0} (a b : Bool) → (T a → A) → (T b → A) → T (a || b) → A
or-either true b f g t = f tt
or-either false b f g t = g t

pub any_false : {A : Type 0} (p : A → Bool) (xs : List A) → Each (λ x. p x ≡ false) xs → any p xs ≡ false
any_false p [] h = refl
any_false p (x ∷ xs) h = ap₂ ◌||◌ h.0 (any_false p xs h.1)

pub all-member : (p : ℕ → Bool) (ns : List ℕ) (n : ℕ) → T (member n ns) → T (all p ns) → T (p n)
all-member p [] n t a = absurd t
all-member p (x ∷ ns) n t a =
    let q = and_parts (p x) (all p ns) a in
    or-either (eqb n x) (member n ns) (λ u. subst (λ (m : ℕ). T (p m)) (sym (eqb→eq n x u)) q.0) (λ u. all-member p ns n u q.1) t

pub any-member : (p : ℕ → Bool) (ns : List ℕ) (n : ℕ) → T (member n ns) → T (p n) → any p ns ≡ true
any-member p [] n t q = absurd t
any-member p (x ∷ ns) n t q =
    or-either (eqb n x) (member n ns) (λ u. here (p x) (subst (λ (m : ℕ). T (p m)) (eqb→eq n x u) q))
    (λ u. ap (λ (b : Bool). p x || b) (any-member p ns n u q) ∙ or-true (p x)) t
  where
    here : (a : Bool) → T a → (a || any p ns) ≡ true
    here true t = refl
    here false t = absurd t

pub any-map : {A B : Type 0} (q : B → Bool) (g : A → B) (xs : List A) → any q (map g xs) ≡ any (λ x. q (g x)) xs
any-map q g [] = refl
any-map q g (x ∷ xs) = ap (λ (b : Bool). q (g x) || b) (any-map q g xs)

pub no_true : {A : Type 0} → false ≡ true → A
no_true e = absurd (let z : ◌≡◌ {A = ℕ} 0 1 = cc in omega arith)

pub each_member : (P : ℕ → Type 0) (xs : List ℕ) (w : ℕ) → T (member w xs) → Each P xs → P w
each_member P [] w t h = absurd t
each_member P (x ∷ xs) w t h = or-either (eqb w x) (member w xs) (λ u. subst P (sym (eqb→eq w x u)) h.0) (λ u. each_member P xs w u h.1) t

pub members-each : (P : ℕ → Type 0) (xs : List ℕ) → ((x : ℕ) → T (member x xs) → P x) → Each P xs
members-each P [] f = tt
members-each P (x ∷ xs) f = (f x (here (eqb x x) (eqb_refl x)), members-each P xs (λ y t. f y (there (eqb y x) y t)))
  where
    here : (c : Bool) → T c → T (c || member x xs)
    here true t = tt
    here false t = absurd t

    there : (c : Bool) (y : ℕ) → T (member y xs) → T (c || member y xs)
    there true y t = tt
    there false y t = t
