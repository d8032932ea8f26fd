-- A library is a growth of itself, and cards, decks and bytes added to a growth give a growth.
use Prim.Native.Nat.{ℕ, zero, suc, ◌≤◌}
use native.Mathlib.Omega.{arith}
use mathlib.Core.Path.{◌≡◌, refl, sym, ap, ◌∙◌}
use mathlib.Core.List.{List, [], ◌∷◌, ◌++◌, append-nil, append_assoc}
use lib.ListN.{take, drop}
use Rattle.library.specs.Library.{Byte, Card, Deck, Library}
use Rattle.library.specs.Growth.{count, Within, NewCard, KeptCard, GrownCards, no_cards, kept_card, added_card, GrownDecks, no_decks, kept_deck, added_deck, Growth}
use Rattle.library.proofs.EachTest.{each_map}
use Rattle.library.proofs.AppendedLists.{each_append}

module _ (lo hi : ℕ) where
  pub kept_refl : (c : Card) → KeptCard lo hi c c
  kept_refl c = record { line = refl; seq = refl; owner = refl; extra = []; later = sym (append-nil c.later); within = tt }

  pub grown-cards-refl : (cs : List Card) → GrownCards lo hi cs cs
  grown-cards-refl [] = no_cards
  grown-cards-refl (c ∷ cs) = kept_card (kept_refl c) (grown-cards-refl cs)

  pub grown-decks-refl : (ds : List Deck) → GrownDecks lo hi ds ds
  grown-decks-refl [] = no_decks
  grown-decks-refl (d ∷ ds) = kept_deck (record { number = refl; common = refl; line = refl; cards = grown-cards-refl d.cards }) (grown-decks-refl ds)

  -- a new card ahead of the card at index i, or at the end
  pub grown-cards-insert : (x : Card) → NewCard lo hi x → (i : ℕ) {cs ds : List Card} → GrownCards lo hi cs ds → GrownCards lo hi cs (take i ds ++ (x ∷ drop i ds))
  grown-cards-insert x h zero g = added_card h g
  grown-cards-insert x h (suc i) no_cards = added_card h no_cards
  grown-cards-insert x h (suc i) (kept_card k g) = kept_card k (grown-cards-insert x h i g)
  grown-cards-insert x h (suc i) (added_card n g) = added_card n (grown-cards-insert x h i g)

  pub grown-cards-end : (x : Card) → NewCard lo hi x → {cs ds : List Card} → GrownCards lo hi cs ds → GrownCards lo hi cs (ds ++ (x ∷ []))
  grown-cards-end x h no_cards = added_card h no_cards
  grown-cards-end x h (kept_card k g) = kept_card k (grown-cards-end x h g)
  grown-cards-end x h (added_card n g) = added_card n (grown-cards-end x h g)

  pub grown-decks-end : (e : Deck) → Within lo hi e.number → GrownCards lo hi [] e.cards → {ds es : List Deck} → GrownDecks lo hi ds es → GrownDecks lo hi ds (es ++ (e ∷ []))
  grown-decks-end e w g no_decks = added_deck w g no_decks
  grown-decks-end e w g (kept_deck k r) = kept_deck k (grown-decks-end e w g r)
  grown-decks-end e w g (added_deck v k r) = added_deck v k (grown-decks-end e w g r)

-- a byte of the units at the end of a history
abbrev pub with_byte : Byte → Card → Card
with_byte b c = record { line = c.line; seq = c.seq; owner = c.owner; later = c.later ++ (b ∷ []) }

pub kept_byte : (lo hi : ℕ) (b : Byte) → Within lo hi b.number → (c d : Card) → KeptCard lo hi c d → KeptCard lo hi c (with_byte b d)
kept_byte lo hi b w c d k = record {
  line = k.line;
  seq = k.seq;
  owner = k.owner;
  extra = k.extra ++ (b ∷ []);
  later = ap (λ (bs : List Byte). bs ++ (b ∷ [])) k.later ∙ append_assoc c.later k.extra (b ∷ []);
  within = each_append (λ x. Within lo hi x.number) k.extra (b ∷ []) k.within (w, tt);
}

pub new-byte : (lo hi : ℕ) (b : Byte) → b.number ≡ hi → (d : Card) → NewCard lo hi d → NewCard lo hi (with_byte b d)
new-byte lo hi b e d n = (
  n.0,
  each_append (λ x. (d.owner ≤ x.number) × (x.number ≤ hi)) d.later (b ∷ []) n.1 ((omega (arith, n.0.1), omega arith), tt),
)

-- MORE UNITS: the upper bound rises
pub new-raise : (lo hi up : ℕ) → hi ≤ up → (c : Card) → NewCard lo hi c → NewCard lo up c
new-raise lo hi up le c n = ((n.0.0, omega (arith, n.0.1)), each_map _ _ (λ b r. (r.0, omega (arith, r.1))) c.later n.1)

pub kept-raise : (lo hi up : ℕ) → hi ≤ up → {c d : Card} → KeptCard lo hi c d → KeptCard lo up c d
kept-raise lo hi up le k = record {
  line = k.line;
  seq = k.seq;
  owner = k.owner;
  extra = k.extra;
  later = k.later;
  within = each_map _ _ (λ b r. (r.0, omega (arith, r.1))) k.extra k.within;
}

pub grown-cards-raise : (lo hi up : ℕ) → hi ≤ up → {cs ds : List Card} → GrownCards lo hi cs ds → GrownCards lo up cs ds
grown-cards-raise lo hi up le no_cards = no_cards
grown-cards-raise lo hi up le (kept_card k g) = kept_card (kept-raise lo hi up le k) (grown-cards-raise lo hi up le g)
grown-cards-raise lo hi up le (added_card {d = d} n g) = added_card (new-raise lo hi up le d n) (grown-cards-raise lo hi up le g)

pub grown-decks-raise : (lo hi up : ℕ) → hi ≤ up → {ds es : List Deck} → GrownDecks lo hi ds es → GrownDecks lo up ds es
grown-decks-raise lo hi up le no_decks = no_decks
grown-decks-raise lo hi up le (kept_deck k g) =
    kept_deck (record { number = k.number; common = k.common; line = k.line; cards = grown-cards-raise lo hi up le k.cards })
    (grown-decks-raise lo hi up le g)
grown-decks-raise lo hi up le (added_deck w c g) =
    added_deck (w.0, omega (arith, w.1)) (grown-cards-raise lo hi up le c) (grown-decks-raise lo hi up le g)

-- A LIBRARY
pub growth-refl : (l : Library) → Growth l [] l
growth-refl l = record {
  directory = sym (append-nil l.directory);
  unknown = tt;
  yanks = grown-cards-refl (count l) (count l) l.yanks;
  decks = grown-decks-refl (count l) (count l) l.decks;
}
