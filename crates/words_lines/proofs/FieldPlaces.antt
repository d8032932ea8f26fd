-- The parts of a directive's line, by their places. Assumes nothing.
--   where parameters start      after-end, after-comma, after-blanks
--   what follows them           clean-to
use Rattle.std.specs.Prelude.{if◌then◌else◌}
use mathlib.Core.Path.{◌≡◌, refl, sym, ap, ◌∙◌}
use mathlib.Core.Bool.{Bool, true, false, ◌&&◌, not}
use mathlib.Core.List.{List, [], ◌∷◌}
use Prim.Native.Nat.{ℕ, suc, ◌+◌, ◌≤◌, ◌<◌}
use native.Mathlib.Numerals.{add-one}
use native.Mathlib.Omega.{arith}
use borrow.Author.Tests.{eqb-true, eqb-false, eq-eqb, ne_eqb}
use lib.Dec.{eqb, eqb-zero-suc, eqb-suc-suc}
use lib.ListN.{length, drop, get_or, length-drop, drop_of_length-le}
use lib.Seq.{drop-cons}
use Rattle.words.specs.Base.{all, take_until, drop_until}
use Rattle.words.specs.Display.{blank, comma}
use Rattle.words_lines.specs.Directive.{ends_name, after_name}
use Rattle.words_lines.proofs.CutAtFirst.{part-from}

abbrev not_blank : ℕ → Bool
not_blank b = not (eqb b blank)

-- e is where the name ends
module _ (l : List ℕ) (e : ℕ) (place : e ≡ 1 + length (take_until ends_name (drop 1 l))) where
  rest : drop e l ≡ drop_until ends_name (drop 1 l)
  rest = part-from ends_name l 1 e place

  pub after-end : e ≡ length l → drop e l ≡ after_name l
  after-end h =
      let none : drop e l ≡ [] = drop_of_length-le l {i = e} (omega arith) in
      rw (← rest, none)

  module _ (inside : e < length l) where
    pub after-comma : get_or l e 0 ≡ comma → drop (e + 1) l ≡ after_name l
    after-comma is = rw (← rest, drop-cons l e 0 inside, eq-eqb _ _ is, add-one)

    pub after-blanks : (get_or l e 0 ≡ comma → ⊥) → (n : ℕ) → n ≡ e + 1 + length (take_until not_blank (drop (e + 1) l)) → drop n l ≡ after_name l
    after-blanks is-not n there =
        rw (← rest, drop-cons l e 0 inside, ne_eqb _ _ is-not) (rw add-one at (part-from not_blank l (e + 1) n there))

pub eqb_comm : (a b : ℕ) → eqb a b ≡ eqb b a
eqb_comm a b = by-test (eqb a b) refl
  where
    by-test : (t : Bool) → eqb a b ≡ t → t ≡ eqb b a
    by-test true e = sym (eq-eqb b a (sym (eqb-true a b e)))
    by-test false e = sym (ne_eqb b a (λ q. eqb-false a b e (sym q)))

eqb-ahead : (k a b : ℕ) → eqb a b ≡ eqb (k + a) (k + b)
eqb-ahead k a b = by-test (eqb a b) refl
  where
    by-test : (t : Bool) → eqb a b ≡ t → t ≡ eqb (k + a) (k + b)
    by-test true e = sym (eq-eqb _ _ (ap (λ n. k + n) (eqb-true a b e)))
    by-test false e = sym (ne_eqb _ _ (λ (q : k + a ≡ k + b). eqb-false a b e (omega arith)))

-- a list is blank where all of it is ahead of the first byte that is not
all-blank : (s : List ℕ) → all (eqb blank) s ≡ eqb (length (take_until not_blank s)) (length s)
all-blank [] = refl
all-blank (x ∷ xs) = rw (eqb_comm blank x) (by-test (eqb x blank) (all-blank xs))
  where
    by-test : (t : Bool) → all (eqb blank) xs ≡ eqb (length (take_until not_blank xs)) (length xs)
        → t && all (eqb blank) xs ≡ eqb (length (if not t then [] else (x ∷ take_until not_blank xs))) (suc (length xs))
    by-test true e = e ∙ sym (eqb-suc-suc (length (take_until not_blank xs)) (length xs))
    by-test false e = sym (eqb-zero-suc (length xs))

-- e is where the parameters end, n where the blanks after them do
pub clean-to : (l : List ℕ) (e n : ℕ) → e ≤ length l → n ≡ e + length (take_until not_blank (drop e l)) → eqb n (length l) ≡ all (eqb blank) (drop e l)
clean-to l e n h there =
    let whole : length l ≡ e + length (drop e l) = rw length-drop (omega arith) in
    rw (there, whole) (sym (all-blank (drop e l) ∙ eqb-ahead e _ _))
