-- Raised words are as many as before, however many cards are allowed for, if there are enough.
use Rattle.std.specs.Prelude.{if◌then◌else◌}
use Prim.Native.Nat.{ℕ, zero, suc, ◌+◌, ◌-◌, ◌≤◌, ◌<◌}
use native.Mathlib.Omega.{arith}
use mathlib.Core.Path.{◌≡◌, refl, sym, ap, ◌∙◌}
use mathlib.Core.Bool.{Bool, true, false}
use mathlib.Core.List.{List, [], ◌∷◌, ◌++◌}
use lib.ListN.{length, take, drop, length-drop, length-append, take-append-drop}
use Rattle.library.specs.Check.{is_last_word}
use Rattle.library.specs.CardWords.{card_len, cards_by}
use Rattle.library_raise.specs.Raised.{further_raised, card_raised, raised_words}
use Rattle.library_yanks_bits.proofs.Cards.{no-cards}
use Rattle.library_raise.proofs.CardRaised.{none-raised}

either-long : (b : Bool) (xs ys : List ℕ) → length ys ≡ length xs → length (if b then xs else ys) ≡ length xs
either-long true xs ys e = refl
either-long false xs ys e = e

further-long : (n : ℕ) (xs : List ℕ) → length (further_raised n xs) ≡ length xs
unfolding further_raised
further-long n [] = refl
further-long n (x ∷ xs) = ap suc (either-long (is_last_word x) xs (further_raised n xs) (further-long n xs))

pub card-long : (n : ℕ) (w : List ℕ) → length (card_raised n w) ≡ length w
unfolding card_raised
card-long n [] = refl
card-long n (x ∷ xs) = ap suc (either-long (is_last_word x) xs (further_raised n xs) (further-long n xs))

some-len : (x : ℕ) (xs : List ℕ) → 0 < card_len (x ∷ xs)
unfolding card_len
some-len x xs = omega arith

-- CARDS by a function that keeps the number of words
module _ (f : List ℕ → List ℕ) (long : (w : List ℕ) → length (f w) ≡ length w) (none : f [] ≡ []) where
  left-long : (x : ℕ) (xs : List ℕ) → length (drop (card_len (x ∷ xs)) (f (x ∷ xs))) ≤ length xs
  left-long x xs =
      let a : 0 < card_len (x ∷ xs) = some-len x xs in
      let b : length (f (x ∷ xs)) ≡ suc (length xs) = long (x ∷ xs) in
      let c : length (drop (card_len (x ∷ xs)) (f (x ∷ xs))) ≡ length (f (x ∷ xs)) - card_len (x ∷ xs) = length-drop (card_len (x ∷ xs)) (f (x ∷ xs)) in
      omega arith

  pub cards-enough : (k m : ℕ) (w : List ℕ) → length w ≤ k → length w ≤ m → cards_by f k w ≡ cards_by f m w
  unfolding cards_by
  cards-enough zero m [] h g = sym (no-cards f none m)
  cards-enough zero m (x ∷ xs) h g = absurd (omega arith)
  cards-enough (suc k) zero [] h g = no-cards f none (suc k)
  cards-enough (suc k) zero (x ∷ xs) h g = absurd (omega arith)
  cards-enough (suc k) (suc m) [] h g = no-cards f none (suc k) ∙ sym (no-cards f none (suc m))
  cards-enough (suc k) (suc m) (x ∷ xs) h g =
      let l : length (drop (card_len (x ∷ xs)) (f (x ∷ xs))) ≤ length xs = left-long x xs in
      ap (λ (t : List ℕ). take (card_len (x ∷ xs)) (f (x ∷ xs)) ++ t)
      (cards-enough k m (drop (card_len (x ∷ xs)) (f (x ∷ xs))) (omega arith) (omega arith))

  pub cards-long : (k : ℕ) (w : List ℕ) → length (cards_by f k w) ≡ length w
  unfolding cards_by
  cards-long zero w = refl
  cards-long (suc k) w =
      let v : List ℕ = f w in
      let m : ℕ = card_len w in
      length-append (take m v) (cards_by f k (drop m v)) ∙ ap (λ (j : ℕ). length (take m v) + j) (cards-long k (drop m v))
      ∙ sym (length-append (take m v) (drop m v)) ∙ ap length (take-append-drop m v) ∙ long w

pub raised_long : (n : ℕ) (w : List ℕ) → length (raised_words n w) ≡ length w
raised_long n w = cards-long (card_raised n) (card-long n) (none-raised n) (length w) w
