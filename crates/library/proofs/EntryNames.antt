-- The directory by name and by number: each name stands at its number, and has no other.
use Rattle.std.specs.Prelude.{if◌then◌else◌}
use Prim.Native.Nat.{ℕ, zero, suc, ◌+◌, ◌-◌, ◌≤◌, ◌<◌}
use native.Mathlib.Omega.{arith}
use mathlib.Core.Path.{◌≡◌, refl, sym, ap, ◌∙◌, subst}
use mathlib.Core.Bool.{Bool, true, false, ◌||◌, not}
use mathlib.Core.List.{List, [], ◌∷◌}
use borrow.Author.Tests.{eq-eqb, ne_eqb}
use lib.Dec.{T, eqb, eqb→eq, eqb_refl, ltb→lt, leb→le, T_not}
use lib.ListN.{length, get_or}
use Rattle.words.specs.Base.{any, member}
use Rattle.words.specs.Names.{is_name, name_of, is_name_word}
use Rattle.words.proofs.TestParts.{and_both}
use Rattle.library.specs.Library.{purged, name_at, entry_from, entry_of}
use Rattle.library.specs.Sound.{no_two, number_tests, is_entry, same_name}
use Rattle.library.proofs.EachTest.{and_parts, all_of-each}

-- the name at a number from 1 on stands one place ahead of it
pub name-at : (directory : List ℕ) (n : ℕ) → 0 < n → name_at directory n ≡ get_or directory (n - 1) 0
name-at directory zero h = absurd (omega arith)
name-at directory (suc k) h = let e : k ≡ suc k - 1 = omega arith in ap (λ (i : ℕ). get_or directory i 0) e

-- what a number that names an entry says
pub record NamedAt (directory : List ℕ) (n : ℕ) : Type 0 where
  pub above : 0 < n
  pub within : n ≤ length directory
  pub named : T (not (eqb (name_at directory n) purged))

pub is-named : (directory : List ℕ) (n : ℕ) → T (is_entry directory n) → NamedAt directory n
is-named directory n t =
    let q = all_of-each (number_tests directory n) t in
    record { above = ltb→lt 0 n q.0; within = leb→le n (length directory) q.1.0; named = q.1.1.0 }

pub any_at : (p : ℕ → Bool) (xs : List ℕ) (k : ℕ) → k < length xs → T (p (get_or xs k 0)) → T (any p xs)
any_at p [] k h t = absurd (omega arith)
any_at p (x ∷ xs) zero h t = go (p x) t
  where
    go : (c : Bool) → T c → T (c || any p xs)
    go true t = tt
    go false t = absurd t
any_at p (x ∷ xs) (suc k) h t = go (p x) (any_at p xs k (omega arith) t)
  where
    go : (c : Bool) → T (any p xs) → T (c || any p xs)
    go true u = tt
    go false u = u

-- FROM THE NAME: a name of the directory stands at its number
found : (w n : ℕ) (xs : List ℕ) → T (member w xs) → (k : ℕ) × (entry_from w n xs ≡ n + k) × (get_or xs k 0 ≡ w)
found w n [] t = absurd t
found w n (x ∷ xs) t = go (eqb w x) (eqb→eq w x) (found w (suc n) xs) t
  where
    go : (c : Bool) → (T c → w ≡ x) → (T (member w xs) → (k : ℕ) × (entry_from w (suc n) xs ≡ suc n + k) × (get_or xs k 0 ≡ w)) → T (c || member w xs)
        → (k : ℕ) × ((if c then n else entry_from w (suc n) xs) ≡ n + k) × (get_or (x ∷ xs) k 0 ≡ w)
    go true e f t = (0, omega arith, sym (e tt))
    go false e f t = let q = f t in (suc q.0, q.1 ∙ omega arith, q.2)

pub name-entry : (directory : List ℕ) (w : ℕ) → T (member w directory) → name_at directory (entry_of directory w) ≡ w
unfolding entry_of
name-entry directory w t =
    let q = found w 1 directory t in
    let e : 1 + q.0 - 1 ≡ q.0 = omega arith in
    ap (name_at directory) q.1 ∙ name-at directory (1 + q.0) (omega arith) ∙ ap (λ (k : ℕ). get_or directory k 0) e ∙ q.2

-- FROM THE NUMBER: the name at a number has that number, where no name stands twice
entry_at : (n k : ℕ) (xs : List ℕ) → k < length xs → T (not (eqb (get_or xs k 0) purged)) → T (no_two same_name xs) → entry_from (get_or xs k 0) n xs ≡ n + k
entry_at n k [] h t o = absurd (omega arith)
entry_at n zero (x ∷ xs) h t o = ap (λ (c : Bool). if c then n else entry_from x (suc n) xs) (eq-eqb x x refl) ∙ omega arith
entry_at n (suc k) (x ∷ xs) h t o =
    ap (λ (c : Bool). if c then n else entry_from w (suc n) xs) (ne_eqb w x differs) ∙ entry_at (suc n) k xs (omega arith) t q.1 ∙ omega arith
  where
    w : ℕ
    w = get_or xs k 0

    q : T (not (any (same_name x) xs)) × T (no_two same_name xs)
    q = and_parts (not (any (same_name x) xs)) (no_two same_name xs) o

    again : w ≡ x → T (same_name x w)
    again e =
        and_both (eqb x w) (not (eqb x purged)) (subst (λ (y : ℕ). T (eqb x y)) (sym e) (eqb_refl x)) (subst (λ (y : ℕ). T (not (eqb y purged))) e t)

    differs : w ≡ x → ⊥
    differs e = T_not (any (same_name x) xs) q.0 (any_at (same_name x) xs k (omega arith) (again e))

module _ (directory : List ℕ) (once : T (no_two same_name directory)) (n : ℕ) (at : T (is_entry directory n)) where
  pub entry-name : entry_of directory (name_at directory n) ≡ n
  unfolding entry_of
  entry-name =
      let q = is-named directory n at in
      let a : 0 < n = q.above in
      let b : n ≤ length directory = q.within in
      let w : name_at directory n ≡ get_or directory (n - 1) 0 = name-at directory n a in
      ap (λ (x : ℕ). entry_from x 1 directory) w ∙ entry_at 1 (n - 1) directory (omega arith) (subst (λ (x : ℕ). T (not (eqb x purged))) w q.named) once ∙ omega arith

  pub name-member : T (member (name_at directory n) directory)
  name-member =
      let q = is-named directory n at in
      let a : 0 < n = q.above in
      let b : n ≤ length directory = q.within in
      let w : name_at directory n ≡ get_or directory (n - 1) 0 = name-at directory n a in
      any_at (eqb (name_at directory n)) directory (n - 1) (omega arith) (subst (λ (x : ℕ). T (eqb (name_at directory n) x)) w (eqb_refl (name_at directory n)))

-- a purged entry is no name
purged-no-name : T (is_name_word purged) → ⊥
unfolding is_name_word is_name name_of
purged-no-name u = u

pub not-purged : (w : ℕ) → T (is_name_word w) → w ≡ purged → ⊥
not-purged w t e = purged-no-name (subst (λ (x : ℕ). T (is_name_word x)) e t)
