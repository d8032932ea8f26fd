-- Cards by the words and numbers that are read of them: a number is 0 where there is no card. Assumes nothing.
--   a number is 0 where there is none              is-number, no_number, number_read_lem
--   a card's name and number                       card-both, card-nameless, card-numberless
--   an empty parameter, and one that is no name    full, named, all-named
use Rattle.std.specs.Prelude.{Some, None}
use mathlib.Core.Path.{◌≡◌, refl, sym}
use mathlib.Core.Bool.{Bool, true, false, ◌&&◌, not}
use mathlib.Core.List.{List, [], ◌∷◌, map}
use Prim.Native.Nat.{ℕ, suc, ◌<◌}
use native.Mathlib.Omega.{arith}
use borrow.Author.Tests.{ltb-true, eqb-true, eqb-false, ne_eqb}
use lib.Dec.{eqb, leb}
use lib.ListN.{length}
use Rattle.words.specs.Base.{all, take_until, beyond}
use Rattle.words.specs.Display.{point}
use Rattle.words.specs.Names.{is_name, is_digit, is_number, decimal, number_read}
use Rattle.words.specs.Spelt.{word_of_name}
use Rattle.words_lines.specs.Directive.{is_card, card_named}
use Rattle.words_lines.proofs.NamesByWord.{and_left, and_right, and-false, picked, not-picked, is_name_lem, no_name, name-word}
use Rattle.words_lines_asked.specs.Parameters.{not_empty, card_read}

module _ (ds : List ℕ) where
  number-positive : is_number ds ≡ true → 0 < decimal 0 ds
  unfolding is_number
  number-positive e = ltb-true 0 (decimal 0 ds) (and_right (leb (length ds) 6 && all is_digit ds) _ (and_left _ (leb (decimal 0 ds) 262143) e))

  is-number : (number_read ds ≡ 0 → ⊥) → is_number ds ≡ true
  unfolding number_read
  is-number = picked (is_number ds) (decimal 0 ds) number-positive

  no_number : number_read ds ≡ 0 → is_number ds ≡ false
  unfolding number_read
  no_number = not-picked (is_number ds) (decimal 0 ds) number-positive

  number_read_lem : is_number ds ≡ true → number_read ds ≡ decimal 0 ds
  unfolding number_read
  number_read_lem is = rw is

module _ (p : List ℕ) where
  pub card-both : (word_of_name (take_until (eqb point) p) ≡ 0 → ⊥) → (number_read (beyond (eqb point) p) ≡ 0 → ⊥)
      → Some (record { name = word_of_name (take_until (eqb point) p); seq = number_read (beyond (eqb point) p) }) ≡ card_read p
  unfolding card_read is_card card_named
  card-both named numbered =
      let a : is_name (take_until (eqb point) p) ≡ true = is_name_lem _ named in
      let b : is_number (beyond (eqb point) p) ≡ true = is-number _ numbered in
      rw (name-word _ a, number_read_lem _ b, a, b)

  pub card-nameless : word_of_name (take_until (eqb point) p) ≡ 0 → None ≡ card_read p
  unfolding card_read is_card
  card-nameless none = rw (no_name _ none)

  pub card-numberless : number_read (beyond (eqb point) p) ≡ 0 → None ≡ card_read p
  unfolding card_read is_card
  card-numberless none = rw (no_number _ none, and-false)

-- AN EMPTY PARAMETER, AND ONE THAT IS NO NAME
pub full : (p : List ℕ) → not (eqb (length p) 0) ≡ not_empty p
full [] = refl
full (x ∷ xs) = some (length xs)
  where
    some : (n : ℕ) → not (eqb (suc n) 0) ≡ true
    some n = rw (ne_eqb (suc n) 0 (λ (e : suc n ≡ 0). omega arith))

pub named : (p : List ℕ) → not (eqb (word_of_name p) 0) ≡ is_name p
named p = by-test (eqb (word_of_name p) 0) refl
  where
    by-test : (t : Bool) → eqb (word_of_name p) 0 ≡ t → not t ≡ is_name p
    by-test true e = sym (no_name p (eqb-true _ _ e))
    by-test false e = sym (is_name_lem p (eqb-false _ _ e))

pub all-named : (ps : List (List ℕ)) → all (λ w. not (eqb w 0)) (map word_of_name ps) ≡ all is_name ps
all-named [] = refl
all-named (p ∷ ps) = rw (named p, all-named ps)
