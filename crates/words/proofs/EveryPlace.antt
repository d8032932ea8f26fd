-- A test computed at every place, or at every place but those that the keys of a match have met. Assumes nothing.
use Prim.Native.Nat.{ℕ, zero, suc, ◌+◌, ◌-◌, ◌≤◌, ◌<◌}
use native.Mathlib.Nat.{add-zero, zero-add, add-suc, suc-add, le_of_suc-le-suc, not-suc-le-zero}
use native.Mathlib.Omega.{arith}
use mathlib.Core.Path.{◌≡◌, refl, sym, ◌∙◌, subst}
use mathlib.Core.Bool.{Bool, false, ◌||◌}
use mathlib.Core.List.{List, [], ◌∷◌}
use borrow.Author.Tests.{ne_eqb}
use lib.Dec.{T}
use Rattle.words.specs.Base.{all, member}
use Rattle.words.proofs.TestParts.{and_left, and_right}

-- n numbers from i on
abbrev pub from : ℕ → ℕ → List ℕ
from i zero = []
from i (suc n) = i ∷ from (suc i) n

below-from : (p : ℕ → Bool) (n i k : ℕ) → T (all p (from i n)) → k < n → T (p (i + k))
below-from p zero i k t h = absurd (not-suc-le-zero h)
below-from p (suc n) i zero t h = subst (λ (m : ℕ). T (p m)) (sym (add-zero i)) (and_left (p i) (all p (from (suc i) n)) t)
below-from p (suc n) i (suc k) t h =
    subst (λ (m : ℕ). T (p m)) (suc-add i k ∙ sym (add-suc i k))
    (below-from p n (suc i) k (and_right (p i) (all p (from (suc i) n)) t) (le_of_suc-le-suc h))

pub below : (p : ℕ → Bool) (n k : ℕ) → T (all p (from 0 n)) → k < n → T (p k)
below p n k t h = subst (λ (m : ℕ). T (p m)) (zero-add k) (below-from p n 0 k t h)

-- x is none of the keys, as the rest of a match says it: a fact for each, the last key's outermost, around P
abbrev pub Apart : Type 0 → ℕ → List ℕ → Type 0
Apart P x [] = P
Apart P x (k ∷ ks) = Apart (P × (x ≡ k → ⊥)) x ks

inmost : (P : Type 0) (x : ℕ) (ks : List ℕ) → Apart P x ks → P
inmost P x [] a = a
inmost P x (k ∷ ks) a = (inmost (P × (x ≡ k → ⊥)) x ks a).0

unmet : (P : Type 0) (x : ℕ) (ks : List ℕ) → Apart P x ks → member x ks ≡ false
unmet P x [] a = refl
unmet P x (k ∷ ks) a = rw (ne_eqb x k (inmost (P × (x ≡ k → ⊥)) x ks a).1) (unmet (P × (x ≡ k → ⊥)) x ks a)

-- of n places from lo on, each is a key or passes: so x passes
pub left_over : (p : ℕ → Bool) (ks : List ℕ) (lo n x : ℕ) → T (all (λ k. member k ks || p k) (from lo n)) → Apart Unit x ks → lo ≤ x → x < lo + n → T (p x)
left_over p ks lo n x t a l h =
    let e : lo + (x - lo) ≡ x = omega arith in
    let s : T (member x ks || p x) = subst (λ (m : ℕ). T (member m ks || p m)) e (below-from (λ k. member k ks || p k) n lo (x - lo) t (omega arith)) in
    rw (unmet Unit x ks a) at s
