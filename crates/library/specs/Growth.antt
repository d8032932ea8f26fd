-- PROMISE. How units change a library (RULES, "The run"): every old card stays, in its deck and its order.
--   numbers and names     count, Within, Unknown, same_names
--   a card                NewCard, KeptCard
--   the cards of a part   GrownCards
--   decks                 KeptDeck, GrownDecks
--   a library             Growth
-- The new numbers are those of the units: they lie above the old directory's count and not above the new one's.
use Rattle.std.specs.Prelude.{ℕ, ◌≤◌, ◌<◌, ◌≡◌, Bool, ◌&&◌, List, [], ◌∷◌, ◌++◌, length}
use Rattle.words.specs.Base.{all, member}
use Rattle.library.specs.Each.{Each}
use Rattle.library.specs.Library.{Byte, Card, Deck, Library, entry_of}

abbrev pub count : Library → ℕ
count l = length l.directory

-- above lo and not above hi
abbrev pub Within : ℕ → ℕ → ℕ → Type 0
Within lo hi n = (lo < n) × (n ≤ hi)

-- names that a directory lacks, each also those ahead of it
abbrev pub Unknown : List ℕ → List ℕ → Type 0
Unknown directory [] = Unit {0}
Unknown directory (w ∷ ws) = (entry_of directory w ≡ 0) × Unknown (directory ++ (w ∷ [])) ws

-- the same names, in any order, repeated or not
abbrev pub same_names : List ℕ → List ℕ → Bool
same_names ns ws = all (λ w. member w ns) ws && all (λ n. member n ws) ns

-- a card of these units: its owner is one of them, and no later byte is of an earlier one
abbrev pub NewCard : ℕ → ℕ → Card → Type 0
NewCard lo hi c = Within lo hi c.owner × Each (λ b. (c.owner ≤ b.number) × (b.number ≤ hi)) c.later

-- an old card c as it stands in the new library: the same text and identifier, its history followed by bytes of these units
pub record KeptCard (lo hi : ℕ) (c d : Card) : Type 0 where
  pub line : d.line ≡ c.line
  pub seq : d.seq ≡ c.seq
  pub owner : d.owner ≡ c.owner
  pub extra : List Byte
  pub later : d.later ≡ c.later ++ extra
  pub within : Each (λ b. Within lo hi b.number) extra

-- the old cards in order, with new cards anywhere
pub data GrownCards (lo hi : ℕ) : List Card → List Card → Type 0 where
  no_cards : GrownCards lo hi [] []
  kept_card : {c d : Card} {cs ds : List Card} → KeptCard lo hi c d → GrownCards lo hi cs ds → GrownCards lo hi (c ∷ cs) (d ∷ ds)
  added_card : {d : Card} {cs ds : List Card} → NewCard lo hi d → GrownCards lo hi cs ds → GrownCards lo hi cs (d ∷ ds)

pub record KeptDeck (lo hi : ℕ) (d e : Deck) : Type 0 where
  pub number : e.number ≡ d.number
  pub common : e.common ≡ d.common
  pub line : e.line ≡ d.line
  pub cards : GrownCards lo hi d.cards e.cards

-- the old decks in order, with new decks at the end
pub data GrownDecks (lo hi : ℕ) : List Deck → List Deck → Type 0 where
  no_decks : GrownDecks lo hi [] []
  kept_deck : {d e : Deck} {ds es : List Deck} → KeptDeck lo hi d e → GrownDecks lo hi ds es → GrownDecks lo hi (d ∷ ds) (e ∷ es)
  added_deck : {e : Deck} {es : List Deck} → Within lo hi e.number → GrownCards lo hi [] e.cards → GrownDecks lo hi [] es → GrownDecks lo hi [] (e ∷ es)

-- a library after units of these names: one unit where there is one name
pub record Growth (old : Library) (names : List ℕ) (new : Library) : Type 0 where
  pub directory : new.directory ≡ old.directory ++ names
  pub unknown : Unknown old.directory names
  pub yanks : GrownCards (count old) (count new) old.yanks new.yanks
  pub decks : GrownDecks (count old) (count new) old.decks new.decks
