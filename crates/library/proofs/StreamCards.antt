-- What holds of each card of YANK$$$ and of the decks holds of each card of the stream.
--   each-stream     of each card of YANK$$$ and of each deck
--   stream-sound    every card of a sound library is sound
--   joined-append   parts appended
use mathlib.Core.Path.{◌≡◌, refl, sym, ap, ◌∙◌}
use mathlib.Core.List.{List, [], ◌∷◌, ◌++◌, map, append_assoc}
use Rattle.library.specs.Each.{Each}
use Rattle.library.specs.Library.{Card, Deck, Library, deck_card, deck_cards, joined, stream}
use Rattle.library.specs.Sound.{SoundCard, Sound}
use Rattle.library.proofs.EachTest.{each_map}
use Rattle.library.proofs.AppendedLists.{each_append}

each-joined : (P : Card → Type 0) (ds : List Deck) → Each (λ d. P (deck_card d) × Each P d.cards) ds → Each P (joined (map deck_cards ds))
each-joined P [] h = tt
each-joined P (d ∷ ds) h = each_append P (deck_cards d) (joined (map deck_cards ds)) (h.0.0, h.0.1) (each-joined P ds h.1)

pub each-stream : (P : Card → Type 0) (l : Library) → Each P l.yanks → Each (λ d. P (deck_card d) × Each P d.cards) l.decks → Each P (stream l)
unfolding stream
each-stream P l y d = each_append P l.yanks (joined (map deck_cards l.decks)) y (each-joined P l.decks d)

pub stream-sound : (l : Library) → Sound l → Each (SoundCard l.directory) (stream l)
stream-sound l s = each-stream (SoundCard l.directory) l s.yanks (each_map _ _ (λ d h. (h.first, h.cards)) l.decks s.decks)

pub joined-append : (ps qs : List (List Card)) → joined (ps ++ qs) ≡ joined ps ++ joined qs
joined-append [] qs = refl
joined-append (p ∷ ps) qs = ap (λ (r : List Card). p ++ r) (joined-append ps qs) ∙ sym (append_assoc p (joined ps) (joined qs))
