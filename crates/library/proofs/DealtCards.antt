-- A library as one run of cards, each with the number of its deck: its stream and its words.
use Prim.Native.Nat.{ℕ}
use mathlib.Core.Path.{◌≡◌, refl, sym, ap, ◌∙◌}
use mathlib.Core.Bool.{Bool}
use mathlib.Core.List.{List, [], ◌∷◌, ◌++◌, map, append_assoc}
use Rattle.library.specs.Each.{Each}
use Rattle.library.specs.Library.{Card, Deck, Library, deck_card, deck_cards, joined, stream}
use Rattle.library.specs.Image.{card_words, cards_words, decks_words}

pub record Dealt : Type 0 where
  pub deck : ℕ
  pub card : Card

abbrev pub dealt_to : ℕ → List Card → List Dealt
dealt_to deck cs = map (λ c. record { deck = deck; card = c }) cs

abbrev pub dealt_decks : List Deck → List Dealt
dealt_decks [] = []
dealt_decks (d ∷ ds) = dealt_to d.number (deck_cards d) ++ dealt_decks ds

abbrev pub dealt : Library → List Dealt
dealt l = dealt_to 0 l.yanks ++ dealt_decks l.decks

abbrev pub dealt_words : (ℕ → ℕ → Bool) → List Dealt → List ℕ
dealt_words yk [] = []
dealt_words yk (p ∷ ps) = card_words (yk p.deck) p.card ++ dealt_words yk ps

-- THE CARDS
cards-run : (deck : ℕ) (cs : List Card) (rest : List Dealt) (r : List Card) → map (λ p. p.card) rest ≡ r → map (λ p. p.card) (dealt_to deck cs ++ rest) ≡ cs ++ r
cards-run deck [] rest r e = e
cards-run deck (c ∷ cs) rest r e = ap {B = List Card} (λ t. c ∷ t) (cards-run deck cs rest r e)

cards-decks : (ds : List Deck) → map (λ p. p.card) (dealt_decks ds) ≡ joined (map deck_cards ds)
cards-decks [] = refl
cards-decks (d ∷ ds) = cards-run d.number (deck_cards d) (dealt_decks ds) (joined (map deck_cards ds)) (cards-decks ds)

pub dealt-stream : (l : Library) → map (λ p. p.card) (dealt l) ≡ stream l
unfolding stream
dealt-stream l = cards-run 0 l.yanks (dealt_decks l.decks) (joined (map deck_cards l.decks)) (cards-decks l.decks)

-- THE WORDS
module _ (yk : ℕ → ℕ → Bool) where
  words-run : (deck : ℕ) (cs : List Card) (rest : List Dealt) (r : List ℕ) → dealt_words yk rest ≡ r → dealt_words yk (dealt_to deck cs ++ rest) ≡ cards_words (yk deck) cs ++ r
  words-run deck [] rest r e = e
  words-run deck (c ∷ cs) rest r e = ap (λ (t : List ℕ). card_words (yk deck) c ++ t) (words-run deck cs rest r e) ∙ sym (append_assoc (card_words (yk deck) c) (cards_words (yk deck) cs) r)

  words-decks : (ds : List Deck) → dealt_words yk (dealt_decks ds) ≡ decks_words yk ds
  words-decks [] = refl
  words-decks (d ∷ ds) = words-run d.number (deck_cards d) (dealt_decks ds) (decks_words yk ds) (words-decks ds)

  pub dealt-words : (l : Library) → dealt_words yk (dealt l) ≡ cards_words (yk 0) l.yanks ++ decks_words yk l.decks
  dealt-words l = words-run 0 l.yanks (dealt_decks l.decks) (decks_words yk l.decks) (words-decks l.decks)

-- WHAT HOLDS OF EVERY CARD
each-run : (P : Card → Type 0) (deck : ℕ) (cs : List Card) (rest : List Dealt) → Each P cs → Each (λ p. P p.card) rest → Each (λ p. P p.card) (dealt_to deck cs ++ rest)
each-run P deck [] rest h r = r
each-run P deck (c ∷ cs) rest h r = (h.0, each-run P deck cs rest h.1 r)

each-decks : (P : Card → Type 0) (ds : List Deck) → Each (λ d. P (deck_card d) × Each P d.cards) ds → Each (λ p. P p.card) (dealt_decks ds)
each-decks P [] h = tt
each-decks P (d ∷ ds) h = each-run P d.number (deck_cards d) (dealt_decks ds) h.0 (each-decks P ds h.1)

pub each-dealt : (P : Card → Type 0) (l : Library) → Each P l.yanks → Each (λ d. P (deck_card d) × Each P d.cards) l.decks → Each (λ p. P p.card) (dealt l)
each-dealt P l h k = each-run P 0 l.yanks (dealt_decks l.decks) h (each-decks P l.decks k)
