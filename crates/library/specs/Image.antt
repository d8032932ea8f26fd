-- MEANING. The words a library is written in (RULES, "Header", "Directory", "Deck list", "Cards", "Limits").
--   a card's words      bit, byte_bits, further_words, head_words, card_words
--   a library's words   cards_words, decks_words, header, counts, tables, encode
--   its limits          short_history, limit_tests, within_limits
use Rattle.std.specs.Prelude.{ℕ, suc, ◌+◌, ◌*◌, ◌^◌, Bool, true, false, List, [], ◌∷◌, ◌++◌, map, leb, length}
use Rattle.words.specs.Display.{codes, codes_word}
use Rattle.words.specs.Base.{all, all_of, is_nil}
use Rattle.words.specs.Text.{text_words}
use Rattle.library.specs.Library.{Byte, Card, Deck, Library, history, deck_cards, deck_names, stream}
use Rattle.library.specs.Yanks.{active, yanked}

-- a bit at its place
abbrev pub bit : Bool → ℕ → ℕ
bit true n = 2 ^ n
bit false n = 0

-- a byte: bit 17 where its number is yanked, bit 16 where it activates, its number in 15-00
abbrev pub byte_bits : (ℕ → Bool) → Byte → ℕ
byte_bits yk b = bit (yk b.number) 17 + bit b.activating 16 + b.number

-- the bytes after the first, three to a word, in 53-36, 35-18 and 17-00; bit 59 is in the last word, and zeros where it has fewer than three
abbrev pub further_words : List ℕ → List ℕ
further_words [] = []
further_words (a ∷ []) = (2 ^ 59 + a * 2 ^ 36) ∷ []
further_words (a ∷ b ∷ []) = (2 ^ 59 + a * 2 ^ 36 + b * 2 ^ 18) ∷ []
further_words (a ∷ b ∷ c ∷ r) = (bit (is_nil r) 59 + a * 2 ^ 36 + b * 2 ^ 18 + c) ∷ further_words r

-- the history words: the first has bit 59 if it is the only one, 58 if the card is active, in 53-36 how many words the text has, in 35-18 the sequence number, in 17-00 a byte
abbrev pub head_words : Bool → ℕ → ℕ → List ℕ → List ℕ
head_words act count seq [] = []
head_words act count seq (b ∷ bs) = (bit (is_nil bs) 59 + bit act 58 + count * 2 ^ 36 + seq * 2 ^ 18 + b) ∷ further_words bs

-- a card under what is yanked in its deck
unfoldable pub card_words : (ℕ → Bool) → Card → List ℕ
card_words yk c =
    let text : List ℕ = text_words c.line in
    head_words (active yk c) (length text) c.seq (map (byte_bits yk) (history c)) ++ text

abbrev pub cards_words : (ℕ → Bool) → List Card → List ℕ
cards_words yk [] = []
cards_words yk (c ∷ cs) = card_words yk c ++ cards_words yk cs

abbrev pub decks_words : (ℕ → ℕ → Bool) → List Deck → List ℕ
decks_words yk [] = []
decks_words yk (d ∷ ds) = cards_words (yk d.number) (deck_cards d) ++ decks_words yk ds

-- the first word: ten codes, which are those of CHECK, 0, 4, 0, and those of Y and *
abbrev pub header : ℕ
header = codes_word (codes "CHECK" ++ (0 ∷ 4 ∷ 0 ∷ codes "Y*"))

-- the second word: how many entries there are in 35-18, how many decks, with YANK$$$, in 17-00
abbrev pub counts : Library → ℕ
counts l = length l.directory * 2 ^ 18 + suc (length l.decks)

abbrev pub tables : Library → List ℕ
tables l = header ∷ counts l ∷ (l.directory ++ deck_names l)

unfoldable pub encode : Library → List ℕ
encode l = let yk : (ℕ → ℕ → Bool) = yanked l in tables l ++ (cards_words (yk 0) l.yanks ++ decks_words yk l.decks)

-- the limits of rows 1, 3 and 5, for the check of a run (31)
abbrev pub short_history : Card → Bool
short_history c = leb (length (history c)) 64

abbrev pub limit_tests : Library → List Bool
limit_tests l =
    leb (length l.directory) 1023
    ∷ leb (suc (length l.decks)) 255
    ∷ leb (length (stream l)) 16383
    ∷ all short_history (stream l)
    ∷ leb (length (encode l)) 65536 ∷ []

unfoldable pub within_limits : Library → Bool
within_limits l = all_of (limit_tests l)
