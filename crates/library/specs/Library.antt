-- MEANING. What a library is (RULES, "Libraries", "Directory", "Deck list", "Cards", "Decks").
--   bytes, cards, decks, libraries     Byte, Card, Deck, Library
--   of a card                          history
--   of a deck                          deck_card, deck_cards
--   of a library                       parts, joined, stream, deck_names, fresh
--   of the directory                   reserved, purged, name_at, has_name, entry_from, entry_of
--   of a line                          DeckLine, is_deck_kind, deck_asked, deck_line
-- Yank and activity bits are not here: they follow from the histories (Yanks.antt), and the image has them (Image.antt).
use Rattle.std.specs.Prelude.{ℕ, zero, suc, Bool, true, false, ◌&&◌, not, List, [], ◌∷◌, ◌++◌, map, eqb, get_or, if◌then◌else◌}
use Rattle.words.specs.Display.{codes, codes_word}
use Rattle.words.specs.Base.{member}
use Rattle.words_lines.specs.Directive.{directive, kind_of_line}
use Rattle.words_lines.specs.declared.Kind.{Kind}
use Rattle.words_lines.specs.declared.Kind.TheVariants.{Text as k_text, Skipped as k_skipped, NotCarried as k_not_carried, Deck as k_deck, Comdeck as k_comdeck, Ident as k_ident, Insert as k_insert, Before as k_before, Delete as k_delete, Restore as k_restore, Yank as k_yank}
use Rattle.words_lines.specs.declared.Line.{Line}
use Rattle.words_lines.specs.declared.Line.TheVariants.{Text, Skipped, Deck as DeckLine·, Comdeck, Ident, Insert, Before, Delete, Restore, Yank, Outside, Long, Malformed, NotCarried}

-- a history byte: the directory number of a set or deck, and whether it switches the card on or off
pub record Byte : Type 0 where
  pub number : ℕ
  pub activating : Bool

-- a card: its line without trailing blanks, its sequence number, its owner, and the bytes after the first
pub record Card : Type 0 where
  pub line : List ℕ
  pub seq : ℕ
  pub owner : ℕ
  pub later : List Byte

-- a card's bytes: the first is its owner's and switches it on
abbrev pub history : Card → List Byte
history c = record { number = c.owner; activating = true } ∷ c.later

-- a deck: its directory number, whether it is common, its deck card's line, its other cards
pub record Deck : Type 0 where
  pub number : ℕ
  pub common : Bool
  pub line : List ℕ
  pub cards : List Card

-- a deck's own card: its owner is the deck, its sequence number 1, and the owner's byte its only one
abbrev pub deck_card : Deck → Card
deck_card d = record { line = d.line; seq = 1; owner = d.number; later = [] }

abbrev pub deck_cards : Deck → List Card
deck_cards d = deck_card d ∷ d.cards

-- a library: the directory's words, the cards of YANK$$$, the decks
pub record Library : Type 0 where
  pub directory : List ℕ
  pub yanks : List Card
  pub decks : List Deck

-- the parts of a library, YANK$$$ first, each the list of its cards; and all cards in order
abbrev pub parts : Library → List (List Card)
parts l = l.yanks ∷ map deck_cards l.decks

abbrev pub joined : List (List Card) → List Card
joined [] = []
joined (p ∷ ps) = p ++ joined ps

unfoldable pub stream : Library → List Card
stream l = joined (parts l)

-- the word of YANK$$$, which no entry is; the word of an entry that is purged
abbrev pub reserved : ℕ
reserved = codes_word (codes "YANK$$$" ++ (0 ∷ 0 ∷ 0 ∷ []))

abbrev pub purged : ℕ
purged = 0o20

-- the word of the entry numbered n: the first entry is 1, and 0 is the number of none
abbrev pub name_at : List ℕ → ℕ → ℕ
name_at directory zero = 0
name_at directory (suc n) = get_or directory n 0

-- whether it has a name: a purged entry is none
abbrev pub has_name : List ℕ → ℕ → Bool
has_name directory w = member w directory && not (eqb w purged)

-- the number of a name, counted from n; 0 where the directory lacks it
abbrev pub entry_from : ℕ → ℕ → List ℕ → ℕ
entry_from w n [] = 0
entry_from w n (x ∷ xs) = let later = entry_from w (suc n) xs in if eqb w x then n else later

unfoldable pub entry_of : List ℕ → ℕ → ℕ
entry_of directory w = entry_from w 1 directory

-- the deck list: YANK$$$, then the name of each deck, in the order in which the decks stand
unfoldable pub deck_names : Library → List ℕ
deck_names l = reserved ∷ map (λ d. name_at l.directory d.number) l.decks

abbrev pub fresh : Library
fresh = record { directory = []; yanks = []; decks = [] }

-- DECK CARDS: a card begins a deck where its line has the name of DECK or COMDECK
pub data DeckLine : Type 0 where
  not_deck bad_deck : DeckLine
  deck_of : Bool → ℕ → DeckLine

abbrev pub is_deck_kind : Kind → Bool
is_deck_kind k_text = false
is_deck_kind k_skipped = false
is_deck_kind k_not_carried = false
is_deck_kind k_deck = true
is_deck_kind k_comdeck = true
is_deck_kind k_ident = false
is_deck_kind k_insert = false
is_deck_kind k_before = false
is_deck_kind k_delete = false
is_deck_kind k_restore = false
is_deck_kind k_yank = false

abbrev pub deck_asked : Line → DeckLine
deck_asked (DeckLine· w) = deck_of false w
deck_asked (Comdeck w) = deck_of true w
deck_asked Text = bad_deck
deck_asked Skipped = bad_deck
deck_asked (Ident w) = bad_deck
deck_asked (Insert r) = bad_deck
deck_asked (Before r) = bad_deck
deck_asked (Delete a b) = bad_deck
deck_asked (Restore a b) = bad_deck
deck_asked Yank = bad_deck
deck_asked Outside = bad_deck
deck_asked Long = bad_deck
deck_asked Malformed = bad_deck
deck_asked NotCarried = bad_deck

-- a line as a deck card's: none, one of wrong form, or that of a normal or common deck of this name
unfoldable pub deck_line : List ℕ → DeckLine
deck_line l = if is_deck_kind (kind_of_line l) then deck_asked (directive l) else not_deck
