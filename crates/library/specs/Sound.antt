-- MEANING. What makes a library sound (RULES, "Text", "Directory", "Deck list", "Cards", "Decks", "Limits"), said of the library and not of its words.
--   of a list          no_two
--   of a line          line_tests, sound_line
--   of a history       number_tests, is_entry, never_falls
--   of the directory   sound_entry, same_name
--   of a card          same_card, SoundCard, BeginsNoDeck
--   of YANK$$$         names_lower_sets
--   of a deck          SoundDeck
--   of a library       Sound
use Rattle.std.specs.Prelude.{ℕ, ◌≤◌, ◌<◌, ◌≡◌, Bool, true, ◌&&◌, ◌||◌, not, List, [], ◌∷◌, map, T, eqb, ltb, leb, length}
use Rattle.words.specs.Base.{any, all, all_of, same}
use Rattle.words.specs.Display.{in_chart}
use Rattle.words.specs.Text.{trim}
use Rattle.words.specs.Names.{is_name_word}
use Rattle.words_lines.specs.Directive.{directive}
use Rattle.library.specs.Each.{Each}
use Rattle.library.specs.Library.{Byte, Card, Deck, Library, not_deck, deck_of, deck_line, history, deck_card, stream, deck_names, reserved, purged, name_at}
use Rattle.library.specs.Yanks.{is_yank, targets}
use Rattle.library.specs.Image.{within_limits}
use Rattle.library.specs.Check.{ok_target}

-- no element is like a later one
abbrev pub no_two : {A : Type 0} → (A → A → Bool) → List A → Bool
no_two alike [] = true
no_two alike (x ∷ xs) = not (any (alike x) xs) && no_two alike xs

-- "Text": characters only, at most 80 columns, and no blank at the end
abbrev pub line_tests : List ℕ → List Bool
line_tests l = all in_chart l ∷ leb (length l) 80 ∷ same (trim l) l ∷ []

abbrev pub sound_line : List ℕ → Bool
sound_line l = all_of (line_tests l)

-- "Cards": the number of an entry, which is not purged
abbrev pub number_tests : List ℕ → ℕ → List Bool
number_tests directory n = ltb 0 n ∷ leb n (length directory) ∷ not (eqb (name_at directory n) purged) ∷ []

abbrev pub is_entry : List ℕ → ℕ → Bool
is_entry directory n = all_of (number_tests directory n)

-- "Cards": no number of a history is below n, or below the number ahead of it
abbrev pub never_falls : ℕ → List Byte → Bool
never_falls n [] = true
never_falls n (b ∷ bs) = leb n b.number && never_falls b.number bs

-- "Directory": an entry is purged, or a name other than YANK$$$
abbrev pub sound_entry : ℕ → Bool
sound_entry w = eqb w purged || (is_name_word w && not (eqb w reserved))

-- "Directory": two entries are one name twice; purged ones are no names
abbrev pub same_name : ℕ → ℕ → Bool
same_name v w = eqb v w && not (eqb v purged)

-- "Cards": two cards with one owner and one sequence number
abbrev pub same_card : Card → Card → Bool
same_card c d = eqb c.owner d.owner && eqb c.seq d.seq

-- a card, also one that begins a deck; that its history has at most 64 bytes is among the limits
pub record SoundCard (directory : List ℕ) (c : Card) : Type 0 where
  -- "Text"
  pub line : T (sound_line c.line)
  -- "Cards": the sequence number is not 0, and has 18 bits
  pub numbered : 0 < c.seq
  pub fits : c.seq ≤ 262143
  -- "Cards": each byte has the number of an entry, and no number is below the one ahead of it
  pub named : T (all (λ b. is_entry directory b.number) (history c))
  pub rises : T (never_falls c.owner c.later)

-- "Decks": a DECK or COMDECK line, be it malformed, stands on deck cards alone
abbrev pub BeginsNoDeck : Card → Type 0
BeginsNoDeck c = deck_line c.line ≡ not_deck

-- "Decks": a card of YANK$$$ is a well-formed YANK, and each name on it is a set's, with a number below the card's owner
abbrev pub names_lower_sets : Library → Card → Bool
names_lower_sets l c =
    is_yank (directive c.line) && all (ok_target l.directory (deck_names l) c.owner) (targets l.directory c.line)

-- "Decks": a deck's number is that of a name in the directory, and its deck card is the DECK or COMDECK line of that name
pub record SoundDeck (directory : List ℕ) (d : Deck) : Type 0 where
  pub title : deck_line d.line ≡ deck_of d.common (name_at directory d.number)
  pub first : SoundCard directory (deck_card d)
  pub cards : Each (SoundCard directory) d.cards
  pub others : Each BeginsNoDeck d.cards

pub record Sound (l : Library) : Type 0 where
  -- "Limits": those of rows 1, 3 and 5
  pub limits : T (within_limits l)
  -- "Directory": names and purged entries, no name twice
  pub entries : T (all sound_entry l.directory)
  pub names : T (no_two same_name l.directory)
  -- "Decks": the cards ahead of the first deck card
  pub yanks : Each (SoundCard l.directory) l.yanks
  pub others : Each BeginsNoDeck l.yanks
  pub lower : Each (λ c. T (names_lower_sets l c)) l.yanks
  -- "Deck list": no deck twice
  pub decks : Each (SoundDeck l.directory) l.decks
  pub differ : T (no_two eqb (map (λ d. d.number) l.decks))
  -- "Cards": no card has both owner and sequence number of another
  pub once : T (no_two same_card (stream l))
