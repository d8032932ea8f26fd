-- A card is raised once its first word and its further ones are.
use Prim.Native.Nat.{ℕ, suc, ◌+◌, ◌/◌, ◌%◌, ◌^◌, ◌≤◌, ◌<◌}
use native.Mathlib.Omega.{arith}
use mathlib.Core.Path.{◌≡◌, refl, sym, ap, ◌∙◌}
use mathlib.Core.List.{List, [], ◌∷◌, ◌++◌, append_assoc}
use lib.ListN.{length, take, drop, get_or, set}
use lib.Seq.{drop-cons, set_split}
use borrow.Author.Tests.{le-leb, lt-leb}
use Rattle.library.specs.CardWords.{further_len, card_len}
use Rattle.library_yanks_bits.proofs.Cards.{one-len, many-len}
use Rattle.library_raise.specs.Raised.{own_raised, further_raised, card_raised}
use Rattle.library_raise.proofs.FurtherRaised.{past-set, upto-set}

-- a card with one history word, and one with more
module _ (n x : ℕ) (xs : List ℕ) where
  pub one-raised : 2 ^ 59 ≤ x → card_raised n (x ∷ xs) ≡ own_raised n x ∷ xs
  unfolding card_raised
  one-raised h = rw (le-leb (2 ^ 59) x h)

  pub many-raised : x < 2 ^ 59 → card_raised n (x ∷ xs) ≡ own_raised n x ∷ further_raised n xs
  unfolding card_raised
  many-raised h = rw (lt-leb (2 ^ 59) x h)

-- THE CARD at a place
module _ (n : ℕ) (w : List ℕ) (at : ℕ) (low : at < length w) where
  abbrev x : ℕ
  x = get_or w at 0

  abbrev y : ℕ
  y = own_raised n x

  abbrev rest : List ℕ
  rest = drop (suc at) w

  cut : drop at w ≡ x ∷ rest
  cut = drop-cons w at 0 low

  pub card-one : 2 ^ 59 ≤ x → set w at y ≡ take at w ++ card_raised n (drop at w)
  card-one h =
      set_split w at y low ∙ ap (λ (l : List ℕ). take at w ++ l) (sym (one-raised n x rest h))
      ∙ ap (λ (l : List ℕ). take at w ++ card_raised n l) (sym cut)

  pub long-one : 2 ^ 59 ≤ x → at + 1 + x / 2 ^ 36 % 2 ^ 18 ≡ at + card_len (drop at w)
  long-one h =
      let k : card_len (x ∷ rest) ≡ 1 + x / 2 ^ 36 % 2 ^ 18 = one-len x rest h in
      let m : at + 1 + x / 2 ^ 36 % 2 ^ 18 ≡ at + card_len (x ∷ rest) = omega arith in
      m ∙ ap (λ (l : List ℕ). at + card_len l) (sym cut)

  -- its first word is written, and the further ones are raised after that
  module _ (more : x < 2 ^ 59) where
    pub card-many : take (at + 1) (set w at y) ++ further_raised n (drop (at + 1) (set w at y)) ≡ take at w ++ card_raised n (drop at w)
    card-many =
        (λ j. upto-set w at y low j ++ further_raised n (past-set w at y low j)) ∙ append_assoc (take at w) (y ∷ []) (further_raised n rest)
        ∙ ap (λ (l : List ℕ). take at w ++ l) (sym (many-raised n x rest more)) ∙ ap (λ (l : List ℕ). take at w ++ card_raised n l) (sym cut)

    pub long-many : (k : ℕ) → k ≡ at + 1 + further_len (drop (at + 1) (set w at y)) → k + x / 2 ^ 36 % 2 ^ 18 ≡ at + card_len (drop at w)
    long-many k e =
        let a : k ≡ at + 1 + further_len rest = e ∙ ap (λ (l : List ℕ). at + 1 + further_len l) (past-set w at y low) in
        let b : card_len (x ∷ rest) ≡ 1 + further_len rest + x / 2 ^ 36 % 2 ^ 18 = many-len x rest more in
        let m : k + x / 2 ^ 36 % 2 ^ 18 ≡ at + card_len (x ∷ rest) = omega arith in
        m ∙ ap (λ (l : List ℕ). at + card_len l) (sym cut)

pub none-raised : (n : ℕ) → card_raised n [] ≡ []
unfolding card_raised
none-raised n = refl
