-- Where the cards of YANK$$$ and the decks stand in the words of a sound library. Assumes nothing.
--   encoded, few      its words, its tables' limits
--   place_is          the cards start after the tables
--   stands, whole     there the cards of YANK$$$ stand, then the decks
--   decks-begin       where decks stand, the next deck card is there
--   decks-stand, yanks-end   the decks stand where the cards of YANK$$$ end, and the first deck card is there
use Prim.Native.Nat.{ℕ, suc, ◌+◌, ◌/◌, ◌%◌, ◌^◌, ◌≤◌}
use native.Mathlib.Omega.{arith}
use mathlib.Core.Path.{◌≡◌, refl, ap, ◌∙◌}
use mathlib.Core.Bool.{Bool, true}
use mathlib.Core.List.{List, [], ◌∷◌, ◌++◌, append_assoc}
use lib.Dec.{leb→le}
use lib.ListN.{length, get_or, drop, length-append, length-drop, length-map}
use lib.Seq.{drop_at}
use Rattle.library.specs.Each.{Each}
use Rattle.library.specs.Library.{Deck, Library, deck_card, name_at, deck_names}
use Rattle.library.specs.Yanks.{yanked}
use Rattle.library.specs.Image.{card_words, cards_words, decks_words, counts, tables, encode, limit_tests, within_limits}
use Rattle.library.specs.Check.{cards_place}
use Rattle.library.specs.Sound.{SoundDeck, Sound}
use Rattle.library.proofs.EachTest.{all_of-each}
use Rattle.library_image.proofs.SeenCard.{inside}
use Rattle.library_image_decks.specs.Decks.{title_of, is_title, deck_end}
use Rattle.library_image_decks.proofs.DeckTitles.{title_at, titled, title-is}
use Rattle.library_image_decks.proofs.DeckRows.{end-here, end-past}
use Rattle.library_image_decks.proofs.CardsEnd.{cards-end, cards-after}

pub decks-begin : (directory ws : List ℕ) → length directory ≤ 1023 → (yk : ℕ → ℕ → Bool) (ds : List Deck) → Each (SoundDeck directory) ds → (at : ℕ) → at ≤ length ws
    → drop at ws ≡ decks_words yk ds → deck_end ws at ≡ at
decks-begin directory ws few yk [] h at l e =
    let z : length (drop at ws) ≡ 0 = ap length e in
    let s : length ws ≤ at = omega (arith, length-drop at ws) in
    end-past ws at s ∙ omega arith
decks-begin directory ws few yk (d ∷ ds) h at l e =
    let y : (ℕ → Bool) = yk d.number in
    let r : List ℕ = cards_words y d.cards ++ decks_words yk ds in
    let f : drop at ws ≡ card_words y (deck_card d) ++ r = e ∙ append_assoc (card_words y (deck_card d)) (cards_words y d.cards) (decks_words yk ds) in
    let t : is_title (title_at ws at) ≡ true =
    ap is_title (title-is directory ws few y (deck_card d) h.0.first at r f ∙ ap title_of h.0.title) ∙ titled d.common (name_at directory d.number) in
    end-here ws at (inside directory ws few y (deck_card d) h.0.first at r f) t

module _ (l : Library) (s : Sound l) where
  abbrev pub ws : List ℕ
  ws = encode l

  abbrev pub yanks : List ℕ
  yanks = cards_words (yanked l 0) l.yanks

  abbrev pub decks : List ℕ
  decks = decks_words (yanked l) l.decks

  pub few : (length l.directory ≤ 1023) × (length l.decks ≤ 254)
  unfolding within_limits
  few =
      let q = all_of-each (limit_tests l) s.limits in
      let d : suc (length l.decks) ≤ 255 = leb→le (suc (length l.decks)) 255 q.1.0 in
      (leb→le (length l.directory) 1023 q.0, omega arith)

  names-long : length (deck_names l) ≡ suc (length l.decks)
  unfolding deck_names
  names-long = ap suc (length-map l.decks (λ d. name_at l.directory d.number))

  tables-long : length (tables l) ≡ 2 + (length l.directory + suc (length l.decks))
  tables-long = ap (λ (n : ℕ). suc (suc n)) (length-append l.directory (deck_names l)) ∙ omega (arith, names-long)

  pub encoded : ws ≡ tables l ++ (yanks ++ decks)
  unfolding encode
  encoded = refl

  pub place_is : cards_place ws ≡ length (tables l)
  place_is =
      let w : get_or ws 1 0 ≡ counts l = ap (λ (x : List ℕ). get_or x 1 0) encoded in
      let a : counts l / 2 ^ 18 ≡ length l.directory = omega (arith, few) in
      let b : counts l % 2 ^ 18 ≡ suc (length l.decks) = omega (arith, few) in
      ap (λ (n : ℕ). 2 + n / 2 ^ 18 + n % 2 ^ 18) w ∙ omega (arith, tables-long, a, b)

  pub stands : drop (length (tables l)) ws ≡ yanks ++ decks
  stands = ap (drop (length (tables l))) encoded ∙ drop_at (tables l) (yanks ++ decks) (length (tables l)) refl

  pub whole : length ws ≡ length (tables l) + (length yanks + length decks)
  whole = ap length encoded ∙ length-append (tables l) (yanks ++ decks) ∙ ap (λ (n : ℕ). length (tables l) + n) (length-append yanks decks)

  pub decks-stand : drop (length (tables l) + length yanks) ws ≡ decks
  decks-stand = cards-after ws (yanked l 0) decks l.yanks (length (tables l)) (length (tables l) + length yanks) stands refl

  pub yanks-end : deck_end ws (length (tables l)) ≡ length (tables l) + length yanks
  yanks-end =
      let end : ℕ = length (tables l) + length yanks in
      let begins : deck_end ws end ≡ end = decks-begin l.directory ws few.0 (yanked l) l.decks s.decks end (omega (arith, whole)) decks-stand in
      cards-end ws (yanked l 0) decks l.directory few.0 l.yanks s.yanks s.others (length (tables l)) end stands refl begins
