-- The limits of a library by its counts: entries, decks, cards, bytes of each history, and words.
--   card-size, cards-size          a card's words are as many under any flags
--   cards-append, both-length      of cards one after another
--   words, words-under, encode-length   a library's
--   Small, within-small, small-within, not-small   the limits, both ways
use Prim.Native.Nat.{ℕ, suc, ◌+◌, ◌≤◌}
use native.Mathlib.Omega.{arith}
use mathlib.Core.Path.{◌≡◌, refl, sym, ap, ap₂, ◌∙◌}
use mathlib.Core.Bool.{Bool, true}
use mathlib.Core.List.{List, [], ◌∷◌, ◌++◌, map, append_assoc}
use lib.Dec.{T, leb→le, le→leb}
use lib.ListN.{length, length-append, length-map}
use Rattle.words.specs.Base.{all}
use Rattle.words.specs.Text.{text_words}
use Rattle.words.proofs.TestParts.{T-true}
use Rattle.library.specs.Each.{Each}
use Rattle.library.specs.Library.{Byte, Card, Deck, Library, history, deck_cards, joined, stream, name_at, deck_names}
use Rattle.library.specs.Yanks.{active, yanked}
use Rattle.library.specs.Image.{byte_bits, further_words, head_words, card_words, cards_words, decks_words, tables, encode, short_history, limit_tests, within_limits}
use Rattle.library.proofs.EachTest.{all_of-each, each-all_of}

-- HOW MANY WORDS: the same under any flags
further-length : (yk zk : ℕ → Bool) (bs : List Byte) → length (further_words (map (byte_bits yk) bs)) ≡ length (further_words (map (byte_bits zk) bs))
further-length yk zk [] = refl
further-length yk zk (a ∷ []) = refl
further-length yk zk (a ∷ b ∷ []) = refl
further-length yk zk (a ∷ b ∷ c ∷ r) = ap suc (further-length yk zk r)

pub card-size : (yk zk : ℕ → Bool) (c : Card) → length (card_words yk c) ≡ length (card_words zk c)
unfolding card_words
card-size yk zk c =
    let text : List ℕ = text_words c.line in
    let a : List ℕ = head_words (active yk c) (length text) c.seq (map (byte_bits yk) (history c)) in
    let b : List ℕ = head_words (active zk c) (length text) c.seq (map (byte_bits zk) (history c)) in
    length-append a text ∙ ap (λ (n : ℕ). suc n + length text) (further-length yk zk c.later) ∙ sym (length-append b text)

pub cards-size : (yk zk : ℕ → Bool) (cs : List Card) → length (cards_words yk cs) ≡ length (cards_words zk cs)
cards-size yk zk [] = refl
cards-size yk zk (c ∷ cs) =
    length-append (card_words yk c) (cards_words yk cs) ∙ ap₂ ◌+◌ (card-size yk zk c) (cards-size yk zk cs) ∙ sym (length-append (card_words zk c) (cards_words zk cs))

-- of cards one after another
pub cards-append : (yk : ℕ → Bool) (cs ds : List Card) → cards_words yk (cs ++ ds) ≡ cards_words yk cs ++ cards_words yk ds
cards-append yk [] ds = refl
cards-append yk (c ∷ cs) ds = ap (λ (r : List ℕ). card_words yk c ++ r) (cards-append yk cs ds) ∙ sym (append_assoc (card_words yk c) (cards_words yk cs) (cards_words yk ds))

pub both-length : (yk : ℕ → Bool) (xs ys : List Card) → length (cards_words yk (xs ++ ys)) ≡ length (cards_words yk xs) + length (cards_words yk ys)
both-length yk xs ys = ap length (cards-append yk xs ys) ∙ length-append (cards_words yk xs) (cards_words yk ys)

-- the words of a library's cards, and of the library
unfoldable pub words : Library → ℕ
words l = length (cards_words (yanked l 0) (stream l))

pub words-under : (yk : ℕ → Bool) (l : Library) → length (cards_words yk (stream l)) ≡ words l
unfolding words
words-under yk l = cards-size yk (yanked l 0) (stream l)

tables-length : (l : Library) → length (tables l) ≡ 3 + length l.directory + length l.decks
unfolding deck_names
tables-length l =
    omega (arith, length-append l.directory (deck_names l), length-map l.decks (λ d. name_at l.directory d.number))

-- each deck's under its own flags
decks-size : (yk : ℕ → ℕ → Bool) (zk : ℕ → Bool) (ds : List Deck) → length (decks_words yk ds) ≡ length (cards_words zk (joined (map deck_cards ds)))
decks-size yk zk [] = refl
decks-size yk zk (d ∷ ds) =
    length-append (cards_words (yk d.number) (deck_cards d)) (decks_words yk ds)
    ∙ ap₂ ◌+◌ (cards-size (yk d.number) zk (deck_cards d)) (decks-size yk zk ds)
    ∙ sym (both-length zk (deck_cards d) (joined (map deck_cards ds)))

pub encode-length : (l : Library) → length (encode l) ≡ 3 + length l.directory + length l.decks + words l
unfolding words encode stream
encode-length l =
    let y : List ℕ = cards_words (yanked l 0) l.yanks in
    let d : List ℕ = decks_words (yanked l) l.decks in
    omega (arith, length-append (tables l) (y ++ d), length-append y d, tables-length l, decks-size (yanked l) (yanked l 0) l.decks, both-length (yanked l 0) l.yanks (joined (map deck_cards l.decks)))

-- THE LIMITS, both ways
pub record Small (l : Library) : Type 0 where
  pub entries : length l.directory ≤ 1023
  pub decks : suc (length l.decks) ≤ 255
  pub cards : length (stream l) ≤ 16383
  pub short : T (all short_history (stream l))
  pub total : 3 + length l.directory + length l.decks + words l ≤ 65536

pub within-small : (l : Library) → T (within_limits l) → Small l
unfolding within_limits
within-small l t =
    let h : Each T (limit_tests l) = all_of-each (limit_tests l) t in
    let e : length (encode l) ≡ 3 + length l.directory + length l.decks + words l = encode-length l in record {
      entries = leb→le (length l.directory) 1023 h.0;
      decks = leb→le (suc (length l.decks)) 255 h.1.0;
      cards = leb→le (length (stream l)) 16383 h.1.1.0;
      short = h.1.1.1.0;
      total = omega (arith, leb→le (length (encode l)) 65536 h.1.1.1.1.0);
    }

small-T : (l : Library) → Small l → T (within_limits l)
unfolding within_limits
small-T l s =
    let e : length (encode l) ≡ 3 + length l.directory + length l.decks + words l = encode-length l in
    let n : length (encode l) ≤ 65536 = omega (arith, s.total) in
    each-all_of (limit_tests l) (
      le→leb (length l.directory) 1023 s.entries,
      (
        le→leb (suc (length l.decks)) 255 s.decks,
        (
          le→leb (length (stream l)) 16383 s.cards,
          (s.short, (le→leb (length (encode l)) 65536 n, tt)),
        ),
      ),
    )

pub small-within : (l : Library) → Small l → within_limits l ≡ true
small-within l s = T-true (within_limits l) (small-T l s)
