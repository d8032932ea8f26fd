-- The yank rule has one solution: what `settled` computes solves it, and any two solutions agree.
use Rattle.std.specs.Prelude.{if◌then◌else◌}
use Prim.Native.Nat.{ℕ, zero, suc, ◌+◌, ◌-◌, ◌≤◌, ◌<◌}
use native.Mathlib.Omega.{arith}
use native.Mathlib.Nat.{add-zero, add-suc}
use native.Mathlib.Decide.{dec_le}
use mathlib.Core.Path.{◌≡◌, refl, sym, ap, ap₂, ◌∙◌}
use mathlib.Core.Bool.{Bool, true, false, ◌&&◌, ◌||◌}
use mathlib.Core.List.{List, [], ◌∷◌}
use lib.Dec.{T}
use borrow.Author.Tests.{eq-eqb, ne_eqb}
use Rattle.words.specs.Base.{any, member}
use Rattle.library.specs.Each.{Each}
use Rattle.library.specs.Library.{Byte}
use Rattle.library.specs.Yanks.{Yank, last_says, covers, yanked_by, Solves, settled}
use Rattle.library.specs.Settled.{NamesLower, SettledSolves, SolvesUnique}
use Rattle.library.proofs.EachTest.{each_map}

-- the verdict on a history depends only on the flags of its numbers
pub says-agree : (f g : ℕ → Bool) (so : Bool) (bs : List Byte) → Each (λ b. f b.number ≡ g b.number) bs → last_says f so bs ≡ last_says g so bs
says-agree f g so [] h = refl
says-agree f g so (b ∷ bs) h =
    says-agree f g (if f b.number then so else b.activating) bs h.1
    ∙ ap (λ (c : Bool). last_says g (if c then so else b.activating) bs) h.0

and-agree : (a : Bool) {p q : Bool} → (T a → p ≡ q) → (a && p) ≡ (a && q)
and-agree true h = h tt
and-agree false h = refl

-- the rule at n depends only on the flags above n
pub rule-agree : (top n : ℕ) (f g : ℕ → Bool) → ((m : ℕ) → n < m → f m ≡ g m) → (ys : List Yank) → Each (NamesLower top) ys → yanked_by ys f 0 n ≡ yanked_by ys g 0 n
rule-agree top n f g h [] s = refl
rule-agree top n f g h (y ∷ ys) s =
    ap₂ ◌||◌
    (and-agree (any (covers 0 n) y.acts) (λ t. says-agree f g false y.bytes (each_map _ _ (λ b r. h b.number r) y.bytes (s.0 n t).2)))
    (rule-agree top n f g h ys s.1)

-- and where it names n, n is one of 1 to top
and_none : (a b : Bool) → (T a → ⊥) → (a && b) ≡ false
and_none true b h = absurd (h tt)
and_none false b h = refl

rule-none : (top n : ℕ) (f : ℕ → Bool) → ((0 < n) × (n ≤ top) → ⊥) → (ys : List Yank) → Each (NamesLower top) ys → yanked_by ys f 0 n ≡ false
rule-none top n f h [] s = refl
rule-none top n f h (y ∷ ys) s =
    ap₂ ◌||◌
    (and_none (any (covers 0 n) y.acts) (last_says f false y.bytes) (λ t. let r = s.0 n t in h (r.0, r.1)))
    (rule-none top n f h ys s.1)

-- so two solutions agree, from the top down
module _ (ys : List Yank) (top : ℕ) (s : Each (NamesLower top) ys) (f g : ℕ → Bool) (a : Solves ys f) (b : Solves ys g) where
  beyond-agree : (n : ℕ) → top < n → f n ≡ g n
  beyond-agree n lt =
      a n ∙ rule-none top n f (λ r. let le : n ≤ top = r.1 in omega arith) ys s
      ∙ sym (b n ∙ rule-none top n g (λ r. let le : n ≤ top = r.1 in omega arith) ys s)

  agree-above : (k : ℕ) → (n : ℕ) → top - k < n → f n ≡ g n
  agree-above zero n lt = beyond-agree n (omega arith)
  agree-above (suc k) n lt = a n ∙ rule-agree top n f g (λ m r. agree-above k m (omega arith)) ys s ∙ sym (b n)

pub solves-unique : SolvesUnique
solves-unique ys top s f g a b n =
    a n ∙ rule-agree top n f g (λ m r. agree-above ys top s f g a b top m (omega arith)) ys s ∙ sym (b n)

-- what `settled` computes
put : Bool → ℕ → List ℕ → List ℕ
put c m xs = if c then (m ∷ xs) else xs

put_other : (c : Bool) (m n : ℕ) (xs : List ℕ) → (n ≡ m → ⊥) → member n (put c m xs) ≡ member n xs
unfolding put
put_other true m n xs h = ap (λ (e : Bool). e || member n xs) (ne_eqb n m h)
put_other false m n xs h = refl

put_self : (c : Bool) (m : ℕ) (xs : List ℕ) → member m xs ≡ false → member m (put c m xs) ≡ c
unfolding put
put_self true m xs h = ap (λ (e : Bool). e || member m xs) (eq-eqb m m refl)
put_self false m xs h = h

module _ (ys : List Yank) (top : ℕ) where
  -- one more step adds at most the number top - k
  step : (k n : ℕ) → (n ≡ top - k → ⊥) → member n (settled ys top (suc k)) ≡ member n (settled ys top k)
  unfolding put
  step k n h = put_other (yanked_by ys (λ m. member m (settled ys top k)) 0 (top - k)) (top - k) n (settled ys top k) h

  not_yet : (k : ℕ) → k ≤ top → (n : ℕ) → n ≤ top - k → member n (settled ys top k) ≡ false
  not_yet zero le n h = refl
  not_yet (suc k) le n h = step k n (λ e. omega arith) ∙ not_yet k (omega arith) n (omega arith)

  not_beyond : (k : ℕ) → (n : ℕ) → top < n → member n (settled ys top k) ≡ false
  not_beyond zero n h = refl
  not_beyond (suc k) n h = step k n (λ e. omega arith) ∙ not_beyond k n h

  stays : (k d : ℕ) → k + d ≤ top → (n : ℕ) → top - k < n → member n (settled ys top (k + d)) ≡ member n (settled ys top k)
  stays k zero le n h = ap (λ (j : ℕ). member n (settled ys top j)) (add-zero k)
  stays k (suc d) le n h =
      ap (λ (j : ℕ). member n (settled ys top j)) (add-suc k d) ∙ step (k + d) n (λ e. omega arith) ∙ stays k d (omega arith) n h

  stays-top : (k : ℕ) → k ≤ top → (n : ℕ) → top - k < n → member n (settled ys top top) ≡ member n (settled ys top k)
  stays-top k le n h =
      let e : top ≡ k + (top - k) = omega arith in
      ap (λ (j : ℕ). member n (settled ys top j)) e ∙ stays k (top - k) (omega arith) n h

  module _ (s : Each (NamesLower top) ys) where
    within-solves : (n : ℕ) → 0 < n → n ≤ top → member n (settled ys top top) ≡ yanked_by ys (λ m. member m (settled ys top top)) 0 n
    unfolding put
    within-solves n pos le =
        let k : ℕ = top - n in
        let S : List ℕ = settled ys top k in
        let e : top - k ≡ n = omega arith in
        stays-top (suc k) (omega arith) n (omega arith)
        ∙ ap (λ (m : ℕ). member n (put (yanked_by ys (λ i. member i S) 0 m) m S)) e
        ∙ put_self (yanked_by ys (λ i. member i S) 0 n) n S (not_yet k (omega arith) n (omega arith))
        ∙ rule-agree top n (λ i. member i S) (λ i. member i (settled ys top top)) (λ m r. sym (stays-top k (omega arith) m (omega arith))) ys s

    at-solves : (n : ℕ) → Dec (n ≤ top) → member n (settled ys top top) ≡ yanked_by ys (λ m. member m (settled ys top top)) 0 n
    at-solves zero d = not_yet top (omega arith) zero (omega arith) ∙ sym (rule-none top zero (λ m. member m (settled ys top top)) (λ r. omega (arith, r.0)) ys s)
    at-solves (suc n) (yes le) = within-solves (suc n) (omega arith) le
    at-solves (suc n) (no gt) =
        not_beyond top (suc n) (omega arith) ∙ sym (rule-none top (suc n) (λ m. member m (settled ys top top)) (λ r. gt r.1) ys s)

pub settled-solves : SettledSolves
settled-solves ys top s n = at-solves ys top s n (dec_le n top)
