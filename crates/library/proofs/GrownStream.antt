-- In a growth the old cards stand in their order through all parts, each deck with its deck card first.
use Prim.Native.Nat.{ℕ}
use mathlib.Core.Path.{refl}
use mathlib.Core.List.{List, [], ◌++◌, map}
use Rattle.library.specs.Library.{Card, Deck, Library, deck_card, deck_cards, joined, stream}
use Rattle.library.specs.Growth.{count, KeptCard, GrownCards, no_cards, kept_card, added_card, KeptDeck, GrownDecks, no_decks, kept_deck, added_deck, Growth}

module _ (lo hi : ℕ) where
  grown-append : {cs ds cs' ds' : List Card} → GrownCards lo hi cs ds → GrownCards lo hi cs' ds' → GrownCards lo hi (cs ++ cs') (ds ++ ds')
  grown-append no_cards h = h
  grown-append (kept_card k g) h = kept_card k (grown-append g h)
  grown-append (added_card n g) h = added_card n (grown-append g h)

  title-kept : (d e : Deck) → KeptDeck lo hi d e → KeptCard lo hi (deck_card d) (deck_card e)
  title-kept d e k = record { line = k.line; seq = refl; owner = k.number; extra = []; later = refl; within = tt }

  grown-joined : {ds es : List Deck} → GrownDecks lo hi ds es → GrownCards lo hi (joined (map deck_cards ds)) (joined (map deck_cards es))
  grown-joined no_decks = no_cards
  grown-joined (kept_deck {d} {e} k g) = kept_card (title-kept d e k) (grown-append k.cards (grown-joined g))
  grown-joined (added_deck w c g) = added_card (w, tt) (grown-append c (grown-joined g))

pub growth-stream : (old : Library) (ns : List ℕ) (new : Library) → Growth old ns new → GrownCards (count old) (count new) (stream old) (stream new)
unfolding stream
growth-stream old ns new g = grown-append (count old) (count new) g.yanks (grown-joined (count old) (count new) g.decks)
