-- The stream of a merged library: the cards of YANK$$$ of both and then the decks of both.
use Prim.Native.Nat.{ℕ}
use mathlib.Core.Path.{◌≡◌, refl, sym, ap, ◌∙◌}
use mathlib.Core.List.{List, [], ◌∷◌, ◌++◌, map}
use lib.ListN.{length}
use Rattle.library.specs.Library.{Card, Deck, Library, deck_cards, joined, stream}
use Rattle.library.proofs.AppendedLists.{map-append}
use Rattle.library.proofs.StreamCards.{joined-append}
use Rattle.library_raise.specs.RaisedCards.{raise_card, raise_deck}
use Rattle.merge_meaning.specs.Merge.{merge}

joined-raise : (k : ℕ) (ds : List Deck) → joined (map deck_cards (map (raise_deck k) ds)) ≡ map (raise_card k) (joined (map deck_cards ds))
joined-raise k [] = refl
joined-raise k (d ∷ ds) =
    ap (λ (r : List Card). map (raise_card k) (deck_cards d) ++ r) (joined-raise k ds) ∙ sym (map-append (raise_card k) (deck_cards d) (joined (map deck_cards ds)))

abbrev pub in_decks : Library → List Card
in_decks l = joined (map deck_cards l.decks)

pub stream-merge : (l m : Library) → let k : ℕ = length l.directory in
    stream (merge l m) ≡ (l.yanks ++ map (raise_card k) m.yanks) ++ (in_decks l ++ map (raise_card k) (in_decks m))
unfolding stream
stream-merge l m =
    let k : ℕ = length l.directory in
    ap (λ (r : List Card). (l.yanks ++ map (raise_card k) m.yanks) ++ r)
    (ap joined (map-append deck_cards l.decks (map (raise_deck k) m.decks)) ∙ joined-append (map deck_cards l.decks) (map deck_cards (map (raise_deck k) m.decks))
    ∙ ap (λ (r : List Card). in_decks l ++ r) (joined-raise k m.decks))

pub stream-raise : (k : ℕ) (m : Library) → map (raise_card k) m.yanks ++ map (raise_card k) (in_decks m) ≡ map (raise_card k) (stream m)
unfolding stream
stream-raise k m = sym (map-append (raise_card k) m.yanks (in_decks m))
