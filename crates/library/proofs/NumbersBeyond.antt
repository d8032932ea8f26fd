-- In a directory that follows another a name that the first lacks has its number raised by the first's count.
--   from-beyond, entry-beyond    names
--   name-beyond, named-beyond    numbers
use Rattle.std.specs.Prelude.{if◌then◌else◌}
use Prim.Native.Nat.{ℕ, suc, ◌+◌, ◌-◌, ◌≤◌, ◌<◌}
use native.Mathlib.Omega.{arith}
use mathlib.Core.Path.{◌≡◌, refl, sym, ap, ◌∙◌, subst}
use mathlib.Core.Bool.{Bool, true, false, ◌||◌, not}
use mathlib.Core.List.{List, [], ◌∷◌, ◌++◌}
use lib.Dec.{T, eqb, lt→ltb, le→leb}
use lib.ListN.{length, get_or, length-append}
use lib.Seq.{get_or-append-add}
use Rattle.words.specs.Base.{member}
use Rattle.library.specs.Library.{name_at, entry_from, entry_of, purged}
use Rattle.library.specs.Sound.{number_tests, is_entry}
use Rattle.library.proofs.EachTest.{each-all_of}
use Rattle.library.proofs.EntryNames.{NamedAt, name-at, is-named}

-- NAMES
pub from-beyond : (w n : ℕ) (xs ys : List ℕ) → 0 < n → T (not (member w xs)) → entry_from w n (xs ++ ys) ≡ entry_from w (n + length xs) ys
from-beyond w n [] ys pos t = let e : n ≡ n + 0 = omega arith in ap (λ (k : ℕ). entry_from w k ys) e
from-beyond w n (x ∷ xs) ys pos t = go (eqb w x) t (from-beyond w (suc n) xs ys (omega arith))
  where
    go : (c : Bool) → T (not (c || member w xs)) → (T (not (member w xs)) → entry_from w (suc n) (xs ++ ys) ≡ entry_from w (suc n + length xs) ys)
        → (if c then n else entry_from w (suc n) (xs ++ ys)) ≡ entry_from w (n + suc (length xs)) ys
    go true u f = absurd u
    go false u f = let e : suc n + length xs ≡ n + suc (length xs) = omega arith in f u ∙ ap (λ (k : ℕ). entry_from w k ys) e

from-raise : (w k n : ℕ) (ys : List ℕ) → 0 < n → 0 < entry_from w n ys → entry_from w (k + n) ys ≡ k + entry_from w n ys
from-raise w k n [] pos h = absurd (omega arith)
from-raise w k n (y ∷ ys) pos h = go (eqb w y) h (from-raise w k (suc n) ys (omega arith))
  where
    go : (c : Bool) → 0 < (if c then n else entry_from w (suc n) ys) → (0 < entry_from w (suc n) ys → entry_from w (k + suc n) ys ≡ k + entry_from w (suc n) ys)
        → (if c then (k + n) else entry_from w (suc (k + n)) ys) ≡ k + (if c then n else entry_from w (suc n) ys)
    go true u f = refl
    go false u f = let e : suc (k + n) ≡ k + suc n = omega arith in ap (λ (j : ℕ). entry_from w j ys) e ∙ f u

pub entry-beyond : (first second : List ℕ) (w : ℕ) → T (not (member w first)) → 0 < entry_of second w → entry_of (first ++ second) w ≡ length first + entry_of second w
unfolding entry_of
entry-beyond first second w t h =
    let e : 1 + length first ≡ length first + 1 = omega arith in
    from-beyond w 1 first second (omega arith) t ∙ ap (λ (k : ℕ). entry_from w k second) e ∙ from-raise w (length first) 1 second (omega arith) h

-- NUMBERS
pub name-beyond : (first second : List ℕ) (n : ℕ) → 0 < n → name_at (first ++ second) (length first + n) ≡ name_at second n
name-beyond first second n pos =
    let e : length first + n - 1 ≡ length first + (n - 1) = omega arith in
    name-at (first ++ second) (length first + n) (omega arith) ∙ ap (λ (k : ℕ). get_or (first ++ second) k 0) e ∙ get_or-append-add first second (n - 1) 0 ∙ sym (name-at second n pos)

pub named-beyond : (first second : List ℕ) (n : ℕ) → T (is_entry second n) → T (is_entry (first ++ second) (length first + n))
named-beyond first second n t =
    let q : NamedAt second n = is-named second n t in
    let a : 0 < n = q.above in
    let b : n ≤ length second = q.within in
    let le : length first + n ≤ length (first ++ second) = omega (arith, length-append first second) in
    each-all_of (number_tests (first ++ second) (length first + n)) (
      lt→ltb 0 (length first + n) (omega arith),
      (
        le→leb (length first + n) (length (first ++ second)) le,
        (subst (λ (x : ℕ). T (not (eqb x purged))) (sym (name-beyond first second n a)) q.named, tt),
      ),
    )
