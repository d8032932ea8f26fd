-- M2: a merged image has the words of the first as they were, and those of the second with numbers raised.
--   active-agree, cards-agree, decks-agree    the first's cards, under flags that agree on their numbers
--   raised-number                             a deck's number
--   image-merged                              the image
use Prim.Native.Nat.{ℕ, zero, suc, ◌+◌, ◌-◌, ◌≤◌, ◌<◌}
use native.Mathlib.Omega.{arith}
use mathlib.Core.Path.{◌≡◌, refl, sym, ap, ap₂, ◌∙◌}
use mathlib.Core.Bool.{Bool, false}
use mathlib.Core.List.{List, [], ◌∷◌, ◌++◌, map, append_assoc}
use lib.ListN.{length, drop, length-append, length-map}
use Rattle.words.specs.Text.{text_words}
use Rattle.library.specs.Each.{Each}
use Rattle.library.specs.Library.{Byte, Card, Deck, Library, history, deck_cards, deck_names}
use Rattle.library.specs.Yanks.{active, yanked}
use Rattle.library.specs.Image.{bit, byte_bits, head_words, card_words, cards_words, decks_words, header, counts, tables, encode}
use Rattle.library.specs.Sound.{SoundCard, SoundDeck}
use Rattle.library.proofs.EachTest.{each_map}
use Rattle.library.proofs.OneSolution.{says-agree}
use Rattle.library.proofs.LimitsByCount.{cards-append, Small, within-small}
use Rattle.library_raise.specs.Raised.{raised_words}
use Rattle.library_raise.specs.RaisedCards.{raise_card, raise_deck}
use Rattle.library_raise.specs.RaisedFits.{Carries}
use Rattle.library_raise.proofs.RaisedCardWords.{cards-raised, decks-raised}
use Rattle.library_raise.proofs.SoundRaises.{cards-raise, decks-raise}
use Rattle.merge_meaning.specs.Merge.{merge}
use Rattle.merge_meaning.specs.Merged.{Mergeable, raise_deck_number, MergedImage}
use Rattle.merge_meaning.proofs.MergedSound.{deck-names-merge}
use Rattle.merge_meaning.proofs.MergedFlags.{counted, yanked-first, yanked-raised}

-- A CARD under flags that agree on its numbers
bytes-agree : (f g : ℕ → Bool) (bs : List Byte) → Each (λ b. f b.number ≡ g b.number) bs → map (byte_bits f) bs ≡ map (byte_bits g) bs
bytes-agree f g [] h = refl
bytes-agree f g (b ∷ bs) h = ap₂ {C = List ℕ} ◌∷◌ (ap (λ (y : Bool). bit y 17 + bit b.activating 16 + b.number) h.0) (bytes-agree f g bs h.1)

pub active-agree : (f g : ℕ → Bool) (c : Card) → Each (λ b. f b.number ≡ g b.number) (history c) → active f c ≡ active g c
unfolding active
active-agree f g c h = says-agree f g false (history c) h

card-agree : (f g : ℕ → Bool) (c : Card) → Each (λ b. f b.number ≡ g b.number) (history c) → card_words f c ≡ card_words g c
unfolding card_words
card-agree f g c h =
    let text : List ℕ = text_words c.line in
    ap₂ (λ (a : Bool) (bs : List ℕ). head_words a (length text) c.seq bs ++ text) (active-agree f g c h) (bytes-agree f g (history c) h)

module _ (directory : List ℕ) where
  cards-agree : (f g : ℕ → Bool) → ((n : ℕ) → n ≤ length directory → f n ≡ g n) → (cs : List Card) → Each (SoundCard directory) cs → cards_words f cs ≡ cards_words g cs
  cards-agree f g h [] s = refl
  cards-agree f g h (c ∷ cs) s =
      ap₂ (λ (a b : List ℕ). a ++ b) (card-agree f g c (each_map _ _ (λ b r. h b.number r) (history c) (counted directory c s.0))) (cards-agree f g h cs s.1)

  decks-agree : (f g : ℕ → ℕ → Bool) → ((deck n : ℕ) → n ≤ length directory → f deck n ≡ g deck n) → (ds : List Deck) → Each (SoundDeck directory) ds → decks_words f ds ≡ decks_words g ds
  decks-agree f g h [] s = refl
  decks-agree f g h (d ∷ ds) s =
      ap₂ (λ (a b : List ℕ). a ++ b) (cards-agree (f d.number) (g d.number) (h d.number) (deck_cards d) (s.0.first, s.0.cards)) (decks-agree f g h ds s.1)

pub raised-number : (k n : ℕ) → 0 < n → raise_deck_number k n ≡ k + n
raised-number k zero pos = absurd (omega arith)
raised-number k (suc n) pos = refl

decks-append : (yk : ℕ → ℕ → Bool) (ds es : List Deck) → decks_words yk (ds ++ es) ≡ decks_words yk ds ++ decks_words yk es
decks-append yk [] es = refl
decks-append yk (d ∷ ds) es =
    ap (λ (r : List ℕ). cards_words (yk d.number) (deck_cards d) ++ r) (decks-append yk ds es)
    ∙ sym (append_assoc (cards_words (yk d.number) (deck_cards d)) (decks_words yk ds) (decks_words yk es))

-- THE IMAGE
module _ (l m : Library) (g : Mergeable l m) where
  abbrev k : ℕ
  k = length l.directory

  abbrev both : ℕ → ℕ → Bool
  both = yanked (merge l m)

  counts-both : counts (merge l m) ≡ counts l + counts m - 1
  counts-both =
      omega (arith, length-append l.directory m.directory, length-append l.decks (map (raise_deck k) m.decks), length-map m.decks (raise_deck k))

  tables-both : tables (merge l m) ≡ header ∷ (counts l + counts m - 1) ∷ ((l.directory ++ m.directory) ++ (deck_names l ++ drop 1 (deck_names m)))
  unfolding deck_names
  tables-both = λ i. header ∷ counts-both i ∷ ((l.directory ++ m.directory) ++ deck-names-merge l m g.first g.second i)

  few : length m.directory + k ≤ 1023
  few = let s : Small (merge l m) = within-small (merge l m) g.limits in omega (arith, s.entries, length-append l.directory m.directory)

  deck-carries : (d : ℕ) → 0 < d → Carries k (yanked m d) (both (k + d))
  deck-carries d pos n low = ap (λ (x : ℕ). both x (k + n)) (sym (raised-number k d pos)) ∙ yanked-raised l m g d n low

  yanks-both : cards_words (both 0) (l.yanks ++ map (raise_card k) m.yanks) ≡ cards_words (yanked l 0) l.yanks ++ raised_words k (cards_words (yanked m 0) m.yanks)
  yanks-both =
      cards-append (both 0) l.yanks (map (raise_card k) m.yanks)
      ∙ ap₂ (λ (a b : List ℕ). a ++ b)
      (cards-agree l.directory (both 0) (yanked l 0) (yanked-first l m g 0) l.yanks g.first.yanks)
      (sym (cards-raised k (yanked m 0) (both 0) (yanked-raised l m g 0) m.yanks (cards-raise m.directory k few m.yanks g.second.yanks)))

  decks-both : decks_words both (l.decks ++ map (raise_deck k) m.decks) ≡ decks_words (yanked l) l.decks ++ raised_words k (decks_words (yanked m) m.decks)
  decks-both =
      decks-append both l.decks (map (raise_deck k) m.decks)
      ∙ ap₂ (λ (a b : List ℕ). a ++ b)
      (decks-agree l.directory both (yanked l) (yanked-first l m g) l.decks g.first.decks)
      (sym (decks-raised k (yanked m) both deck-carries m.decks (decks-raise m.directory k few m.decks g.second.decks)))

pub image-merged : MergedImage
unfolding encode
image-merged l m g = ap₂ (λ (a b : List ℕ). a ++ b) (tables-both l m g) (ap₂ (λ (a b : List ℕ). a ++ b) (yanks-both l m g) (decks-both l m g))
