-- What changes in a range, in a deck and at the end of the decks do to the parts of a library.
use Prim.Native.Nat.{ℕ, zero, suc, ◌-◌, ◌<◌}
use native.Mathlib.Omega.{arith}
use mathlib.Core.Path.{◌≡◌, refl, sym, ap, ap₂, ◌∙◌, subst}
use mathlib.Core.List.{List, [], ◌∷◌, ◌++◌, map}
use lib.ListN.{length}
use Rattle.library.specs.Each.{Each}
use Rattle.library.specs.Library.{Card, Deck, deck_card, deck_cards, joined}
use Rattle.library.proofs.AppendedLists.{map-append}
use Rattle.library.proofs.InsertedElement.{Inserted, put, past, inserted-left, inserted-right, inserted-at}
use Rattle.run_meaning.specs.Safe.{key}
use Rattle.run_meaning.specs.Step.{with_cards, change_at, put_in, over_range}

-- A RANGE OF CARDS
pub each-range : (P : Card → Type 0) (f : Card → Card) → ((c : Card) → P c → P (f c)) → (i j : ℕ) (cs : List Card) → Each P cs → Each P (over_range f i j cs)
each-range P f h i j [] e = tt
each-range P f h (suc i) j (c ∷ cs) e = (e.0, each-range P f h i (j - 1) cs e.1)
each-range P f h zero zero (c ∷ cs) e = (h c e.0, e.1)
each-range P f h zero (suc j) (c ∷ cs) e = (h c e.0, each-range P f h zero j cs e.1)

pub keys-range : (f : Card → Card) → ((c : Card) → key (f c) ≡ key c) → (i j : ℕ) (cs : List Card) → map key (over_range f i j cs) ≡ map key cs
keys-range f h i j [] = refl
keys-range f h (suc i) j (c ∷ cs) = ap {B = List (ℕ × ℕ)} (λ r. key c ∷ r) (keys-range f h i (j - 1) cs)
keys-range f h zero zero (c ∷ cs) = ap {B = List (ℕ × ℕ)} (λ k. k ∷ map key cs) (h c)
keys-range f h zero (suc j) (c ∷ cs) = ap₂ {C = List (ℕ × ℕ)} ◌∷◌ (h c) (keys-range f h zero j cs)

-- A DECK
module _ (f : List Card → List Card) where
  pub each-change : (P : Deck → Type 0) → ((d : Deck) → P d → P (with_cards f d)) → (k : ℕ) (ds : List Deck) → Each P ds → Each P (change_at f k ds)
  each-change P h k [] e = tt
  each-change P h zero (d ∷ ds) e = (h d e.0, e.1)
  each-change P h (suc k) (d ∷ ds) e = (e.0, each-change P h k ds e.1)

  pub numbers-change : (g : ℕ → ℕ) (k : ℕ) (ds : List Deck) → map (λ d. g d.number) (change_at f k ds) ≡ map (λ d. g d.number) ds
  numbers-change g k [] = refl
  numbers-change g zero (d ∷ ds) = refl
  numbers-change g (suc k) (d ∷ ds) = ap {B = List ℕ} (λ r. g d.number ∷ r) (numbers-change g k ds)

  pub keys-change : ((cs : List Card) → map key (f cs) ≡ map key cs) → (k : ℕ) (ds : List Deck)
      → map key (joined (map deck_cards (change_at f k ds))) ≡ map key (joined (map deck_cards ds))
  keys-change h k [] = refl
  keys-change h zero (d ∷ ds) =
      ap {B = List (ℕ × ℕ)} (λ r. key (deck_card d) ∷ r)
      (map-append key (f d.cards) (joined (map deck_cards ds))
      ∙ ap (λ (r : List (ℕ × ℕ)). r ++ map key (joined (map deck_cards ds))) (h d.cards)
      ∙ sym (map-append key d.cards (joined (map deck_cards ds))))
  keys-change h (suc k) (d ∷ ds) =
      map-append key (deck_cards d) (joined (map deck_cards (change_at f k ds)))
      ∙ ap (λ (r : List (ℕ × ℕ)). map key (deck_cards d) ++ r) (keys-change h k ds)
      ∙ sym (map-append key (deck_cards d) (joined (map deck_cards ds)))

pub inserted-change : (y : Card) (i k : ℕ) (ds : List Deck) → k < length ds → Inserted y (joined (map deck_cards ds)) (joined (map deck_cards (change_at (put_in i y) k ds)))
inserted-change y i k [] lt = absurd (omega arith)
inserted-change y i zero (d ∷ ds) lt = inserted-right y (joined (map deck_cards ds)) (past (inserted-at y i d.cards))
inserted-change y i (suc k) (d ∷ ds) lt = inserted-left y (deck_cards d) (inserted-change y i k ds (omega arith))

-- ALL DECKS
pub inserted-deck : (d : Deck) → d.cards ≡ [] → (ds : List Deck) → Inserted (deck_card d) (joined (map deck_cards ds)) (joined (map deck_cards (ds ++ (d ∷ []))))
inserted-deck d e [] = subst (λ (cs : List Card). Inserted (deck_card d) [] ((deck_card d ∷ cs) ++ [])) (sym e) put
inserted-deck d e (x ∷ ds) = inserted-left (deck_card d) (deck_cards x) (inserted-deck d e ds)
