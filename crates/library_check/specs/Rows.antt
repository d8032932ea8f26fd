-- CODE. What the parts of rows 7 to 10 answer.
--   a deck card         begins_deck, titled, is_next
--   a byte's bit        ok_bit
--   a card's key        key_of
--   a YANK line         ok_name, ok_param, ok_yank_line
--   a card's bits       ok_card_bits
--   rows                Finds, Row7, CardsEnd, Row8, Row9, Row10, RowBits
--   the check           after_decks, CardsOf, AfterDecks, AfterCards, AfterRows
use Rattle.std.specs.Prelude.{Option as Place, Result, ℕ, ◌+◌, ◌*◌, ◌/◌, ◌%◌, ◌^◌, ◌≤◌, ◌≡◌, Bool, false, true, ◌&&◌, ◌||◌, List, eqb, length, drop}
use Rattle.std.specs.Bool.{beq}
use Rattle.std.proofs.Math.Option.{Option, none}
use Rattle.words.specs.Base.{all}
use Rattle.words.specs.Spelt.{word_of_name}
use Rattle.words_lines.specs.Directive.{directive}
use Rattle.library.specs.Library.{Library, entry_of}
use Rattle.library.specs.Yanks.{whole_set, is_yank, targets}
use Rattle.library.specs.Check.{Checking, good, checked, or_else, cards, Stored, ahead_of_decks, first_failing, ok_target, ok_yank, ok_bits, library_of, directory_of, deck_words_of, row7, row8, row9, row10, check_cards}
use Rattle.library.specs.declared.Seen.{Seen}
use Rattle.library.specs.declared.Refusal.{Refusal}
use Rattle.library.specs.declared.Fault.TheVariants.{Yank as YankFault, Bit, Twice}
use Rattle.library.specs.declared.DeckLine.{DeckLine as DeckAnswer}
use Rattle.library.specs.declared.DeckLine.TheVariants.{NotDeck, BadDeck, Deck, Common}
use Rattle.library_yanks.specs.Bytes.{part, flagged, say_all}
use Rattle.library_yanks.specs.Flags.{settled_flags}
use Rattle.library_tables.specs.Found.{found}
use Rattle.library_cards.specs.Found.{cards_read}
use Rattle.library_check.specs.Walks.{Walks, Spans}

-- A DECK CARD
abbrev pub begins_deck : DeckAnswer → Bool
begins_deck NotDeck = false
begins_deck BadDeck = true
begins_deck (Deck w) = true
begins_deck (Common w) = true

-- whether what is seen of a card with the line of a deck's name is the deck card of the list's word x
abbrev pub titled : List ℕ → ℕ → Seen → ℕ → ℕ → Bool
titled directory at c x w = eqb w x && eqb c.owner (entry_of directory w) && eqb c.seq 1 && eqb c.text (at + 1)

abbrev pub is_next : List ℕ → ℕ → Seen → ℕ → DeckAnswer → Bool
is_next directory at c x NotDeck = false
is_next directory at c x BadDeck = false
is_next directory at c x (Deck w) = titled directory at c x w
is_next directory at c x (Common w) = titled directory at c x w

-- A BYTE'S BIT as it is stored: a zero byte is unused
abbrev pub ok_bit : (ℕ → Bool) → ℕ → Bool
ok_bit yanked b = eqb b 0 || beq (eqb (b / 2 ^ 17) 1) (yanked (b % 2 ^ 16))

-- A CARD'S KEY: owner and sequence number in one
abbrev pub key_of : Stored → ℕ
key_of s = s.card.owner * 2 ^ 18 + s.card.seq

-- ROWS: of whatever cards stand from a place up to another
abbrev pub Finds : List ℕ → List ℕ → ℕ → ℕ → (List Stored → Option ℕ) → Place ℕ → Type 0
Finds directory ws at end row r = (ss : List Stored) → Spans directory ws at end ss → r ≡ found (row ss)

-- under a directory and a deck list
abbrev pub Row7 : List ℕ → List ℕ → List ℕ → ℕ → Place ℕ → Type 0
Row7 directory list ws from r = Finds directory ws from (length ws) (λ ss. row7 directory (drop 1 list) ss (length ws)) r

abbrev pub CardsEnd : List ℕ → ℕ → ℕ → Type 0
CardsEnd ws at r = (directory : List ℕ) (ss : List Stored) → Spans directory ws at (length ws) ss → Spans directory ws at r (ahead_of_decks ss)

-- ROW 8: a name that a card of this owner may yank
abbrev pub ok_name : List ℕ → List ℕ → ℕ → ℕ → Bool
ok_name directory deck_words own w = ok_target directory deck_words own (whole_set (entry_of directory w))

abbrev pub ok_param : List ℕ → List ℕ → ℕ → List ℕ → Bool
ok_param directory deck_words own p = ok_name directory deck_words own (word_of_name p)

abbrev pub ok_yank_line : List ℕ → List ℕ → ℕ → List ℕ → Bool
ok_yank_line directory deck_words own l = is_yank (directive l) && all (ok_target directory deck_words own) (targets directory l)

abbrev pub Row8 : List ℕ → List ℕ → List ℕ → ℕ → ℕ → Place ℕ → Type 0
Row8 directory list ws from end r = Finds directory ws from end (first_failing (ok_yank directory list)) r

-- ROW 9: the bits of a card with these stored bytes
abbrev pub ok_card_bits : (ℕ → Bool) → Bool → List ℕ → Bool
ok_card_bits yanked act bs = beq act (say_all yanked false bs) && all (ok_bit yanked) bs

abbrev pub Row9 : List ℕ → ℕ → (ℕ → Bool) → Place ℕ → Type 0
Row9 ws from yanked r = (directory : List ℕ) → Finds directory ws from (length ws) (first_failing (ok_bits yanked)) r

-- ROW 10
abbrev pub Row10 : List ℕ → ℕ → Place ℕ → Type 0
Row10 ws from r = (directory : List ℕ) (ss : List Stored) → Spans directory ws from (length ws) ss → length ss ≤ 16383 → r ≡ found (row10 ss)

-- row 9 under the flags that the cards ahead of `end` settle
abbrev pub RowBits : List ℕ → List ℕ → ℕ → ℕ → Place ℕ → Type 0
RowBits directory ws from end r = Row9 ws from (flagged (settled_flags directory (part from end ws) 1024)) r

-- THE CHECK of the cards that rows 5 and 6 read, from row 8 on and from row 7 on, in an image of no more words and entries than a library may have
abbrev pub after_decks : List ℕ → List ℕ → List Stored → Checking
after_decks directory list ss =
    let l : Library = library_of directory ss in
    or_else YankFault (row8 directory list ss) (or_else Twice (row10 ss) (or_else Bit (row9 l ss) (good l)))

pub record CardsOf (directory ws : List ℕ) (from : ℕ) (ss : List Stored) : Type 0 where
  pub walks : Walks directory ws from ss
  pub count : length ss ≤ 16383
  pub few : length directory ≤ 1023
  pub short : length ws ≤ 65536

abbrev pub AfterDecks : List ℕ → List ℕ → List ℕ → ℕ → Result (Unit {0}) Refusal → Type 0
AfterDecks directory list ws from r =
    (ss : List Stored) → CardsOf directory ws from ss → row7 directory (drop 1 list) ss (length ws) ≡ none → r ≡ checked (after_decks directory list ss)

abbrev pub AfterCards : List ℕ → List ℕ → List ℕ → ℕ → Result (Unit {0}) Refusal → Type 0
AfterCards directory list ws from r = (ss : List Stored) → CardsOf directory ws from ss → r ≡ checked (check_cards directory list (length ws) (cards ss))

-- and of an image that passes rows 1 to 6
abbrev pub AfterRows : List ℕ → Result (Unit {0}) Refusal → Type 0
AfterRows ws r = (ss : List Stored) → cards_read ws ≡ cards ss → r ≡ checked (check_cards (directory_of ws) (deck_words_of ws) (length ws) (cards ss))
