-- The words that are written of two accepted images are the image of the merged library.
--   words-merged      the words that are written are the image of the merged library
--   parted            its places
--   cards-counted     its cards are as many as its library's stream has
use Prim.Native.Nat.{ℕ, suc, ◌+◌, ◌-◌, ◌≤◌, ◌<◌}
use native.Mathlib.Omega.{arith}
use mathlib.Core.Path.{◌≡◌, refl, sym, ap, ap₂, ◌∙◌}
use mathlib.Core.Bool.{Bool}
use mathlib.Core.List.{List, [], ◌∷◌, ◌++◌}
use lib.ListN.{length, get_or, take, drop, length-append, length-drop, length-map}
use lib.Seq.{take_at}
use Rattle.library.specs.Each.{Each}
use Rattle.library.specs.Library.{Library, deck_names, stream}
use Rattle.library.specs.Yanks.{yanked}
use Rattle.library.specs.Image.{card_words, cards_words, decks_words, header, counts, tables, encode}
use Rattle.library.specs.Check.{directory_count, directory_of, deck_words_of, cards_place, good, check}
use Rattle.library.specs.Sound.{SoundCard, Sound}
use Rattle.library.proofs.EachTest.{each_map}
use Rattle.library.proofs.CheckEncode.{check-encode}
use Rattle.library.proofs.DealtCards.{Dealt, dealt, dealt_words, dealt-stream, dealt-words, each-dealt}
use Rattle.library.proofs.ImageParts.{read-sound, header_is, counts-are, entries-are, decks-are, readable, directory-is, names-are}
use Rattle.library_raise.specs.Raised.{raised_words}
use Rattle.library_image.specs.Places.{next_at, places_in}
use Rattle.library_image.proofs.CardPlaces.{places-more, places-end}
use Rattle.library_image.proofs.SeenCard.{inside, next-is, after}
use Rattle.library_image_decks.specs.Decks.{deck_end}
use Rattle.library_image_decks.proofs.DeckPlaces.{few, place_is, stands, whole, decks-stand, yanks-end}
use Rattle.merge_meaning.specs.Merge.{merge}
use Rattle.merge_meaning.specs.Merged.{Mergeable}
use Rattle.merge.specs.Words.{places_of, Laid, yanks_in, decks_in, merged_words}
use Rattle.merge_meaning.proofs.MergedImage.{image-merged}

-- THE CARDS: those of YANK$$$, and those of decks
module _ (l : Library) (s : Sound l) where
  abbrev y : List ℕ
  y = cards_words (yanked l 0) l.yanks

  abbrev d : List ℕ
  d = decks_words (yanked l) l.decks

  end_is : deck_end (encode l) (cards_place (encode l)) ≡ length (tables l) + length (cards_words (yanked l 0) l.yanks)
  end_is = ap (deck_end (encode l)) (place_is l s) ∙ yanks-end l s

  yanks-in : yanks_in (encode l) ≡ cards_words (yanked l 0) l.yanks
  yanks-in =
      let n : deck_end (encode l) (cards_place (encode l)) - cards_place (encode l) ≡ length y = omega (arith, end_is, place_is l s) in
      let r : drop (cards_place (encode l)) (encode l) ≡ y ++ d = ap (λ (i : ℕ). drop i (encode l)) (place_is l s) ∙ stands l s in
      ap₂ (λ (i : ℕ) (xs : List ℕ). take i xs) n r ∙ take_at y d (length y) refl

  decks-in : decks_in (encode l) ≡ decks_words (yanked l) l.decks
  decks-in = ap (λ (i : ℕ). drop i (encode l)) end_is ∙ decks-stand l s

-- COUNTED: where the words of so many cards stand up to the end
module _ (directory ws : List ℕ) (small : length directory ≤ 1023) (yk : ℕ → ℕ → Bool) where
  count-from : (ps : List Dealt) → Each (λ p. SoundCard directory p.card) ps → (at : ℕ) → at ≤ length ws → drop at ws ≡ dealt_words yk ps → length (places_in ws at) ≡ length ps
  count-from [] h at l e =
      let z : length (drop at ws) ≡ 0 = ap length e in
      ap length (places-end ws at (omega (arith, length-drop at ws)))
  count-from (p ∷ ps) h at l e =
      let rest : List ℕ = dealt_words yk ps in
      let in-at : at < length ws = inside directory ws small (yk p.deck) p.card h.0 at rest e in
      let n : next_at ws at ≡ at + length (card_words (yk p.deck) p.card) = next-is directory ws small (yk p.deck) p.card h.0 at rest e in
      let on : drop (next_at ws at) ws ≡ rest = after directory ws small (yk p.deck) p.card h.0 at rest e in
      let le : next_at ws at ≤ length ws = omega (arith, n, ap length e, length-append (card_words (yk p.deck) p.card) rest, length-drop at ws) in
      ap length (places-more ws at in-at) ∙ ap suc (count-from ps h.1 (next_at ws at) le on)

count-all : (l : Library) → Sound l → length (places_in (encode l) (cards_place (encode l))) ≡ length (stream l)
count-all l s =
    let ps : List Dealt = dealt l in
    let h : Each (λ p. SoundCard l.directory p.card) ps = each-dealt (SoundCard l.directory) l s.yanks (each_map _ _ (λ d r. (r.first, r.cards)) l.decks s.decks) in
    let e : drop (length (tables l)) (encode l) ≡ dealt_words (yanked l) ps = stands l s ∙ sym (dealt-words (yanked l) l) in
    let le : length (tables l) ≤ length (encode l) = omega (arith, whole l s) in
    ap (λ (i : ℕ). length (places_in (encode l) i)) (place_is l s)
    ∙ count-from l.directory (encode l) (few l s).0 (yanked l) ps h (length (tables l)) le e
    ∙ sym (length-map ps (λ p. p.card)) ∙ ap length (dealt-stream l)

-- OF AN IMAGE that the check accepted
module _ (ws : List ℕ) (l : Library) (ok : check ws ≡ good l) where
  sound : Sound l
  sound = read-sound ws l ok

  is : ws ≡ encode l
  is = sym (check-encode ws l ok)

  pub directory-of : directory_of ws ≡ l.directory
  directory-of = ap (λ (n : ℕ). take n (drop 2 ws)) (entries-are ws l ok) ∙ directory-is ws l ok

  names_of : deck_words_of ws ≡ deck_names l
  names_of = ap₂ (λ (n k : ℕ). take k (drop (2 + n) ws)) (entries-are ws l ok) (decks-are ws l ok) ∙ names-are ws l ok

  yanks-of : yanks_in ws ≡ cards_words (yanked l 0) l.yanks
  yanks-of = ap yanks_in is ∙ yanks-in l sound

  decks-of : decks_in ws ≡ decks_words (yanked l) l.decks
  decks-of = ap decks_in is ∙ decks-in l sound

  pub cards-counted : length (places_in ws (cards_place ws)) ≡ length (stream l)
  cards-counted = ap (λ (x : List ℕ). length (places_in x (cards_place x))) is ∙ count-all l sound

  pub parted : Laid ws (places_of ws)
  parted =
      let r = readable ws l ok in
      let end : deck_end ws (cards_place ws) ≡ length (tables l) + length (cards_words (yanked l 0) l.yanks) = ap (λ (x : List ℕ). deck_end x (cards_place x)) is ∙ end_is l sound in
      let from : cards_place ws ≡ length (tables l) = ap cards_place is ∙ place_is l sound in
      let all : length ws ≡ length (tables l) + (length (cards_words (yanked l 0) l.yanks) + length (decks_words (yanked l) l.decks)) = ap length is ∙ whole l sound in
      record {
        names = refl;
        cards = refl;
        decks = refl;
        entries = r.entries;
        some = r.some;
        most = r.decks;
        counts = omega (arith, r.entries);
        yanks = omega (arith, end, from);
        inside = omega (arith, end, all);
        long = r.long;
      }

-- OF TWO: the words that are written are the image of the merged library
pub words-merged : (ws vs : List ℕ) (l m : Library) → check ws ≡ good l → check vs ≡ good m → Mergeable l m → merged_words ws vs ≡ encode (merge l m)
unfolding merged_words
words-merged ws vs l m p q g =
    let h : get_or ws 0 0 ≡ header = header_is ws l p in
    let c : get_or ws 1 0 ≡ counts l = counts-are ws l p in
    let d : get_or vs 1 0 ≡ counts m = counts-are vs m q in
    let k : directory_count ws ≡ length l.directory = entries-are ws l p in
    let e1 = directory-of ws l p in
    let e2 = directory-of vs m q in
    let n1 = names_of ws l p in
    let n2 = names_of vs m q in
    let y1 = yanks-of ws l p in
    let y2 = yanks-of vs m q in
    let d1 = decks-of ws l p in
    let d2 = decks-of vs m q in
    (λ i. (h i ∷ (c i + d i - 1) ∷ ((e1 i ++ e2 i) ++ (n1 i ++ drop 1 (n2 i)))) ++ ((y1 i ++ raised_words (k i) (y2 i)) ++ (d1 i ++ raised_words (k i) (d2 i))))
    ∙ sym (image-merged l m g)
