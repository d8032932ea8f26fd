-- CODE. A library that the check accepted, taken up into the arrays of a run.
--   flags             NoFlags, listed_numbers, FlagsDecks
--   the first deck    titled_card, Titled, FindsTitle
--   the library       Loads
use Rattle.std.specs.Prelude.{ℕ, ◌≡◌, Bool, false, List, map, length, take, drop}
use Rattle.words.specs.Base.{member}
use Rattle.library.specs.Library.{Card, Library, entry_of}
use Rattle.library.specs.Yanks.{yanked}
use Rattle.library.specs.Image.{cards_words}
use Rattle.library.specs.Check.{good, check}
use Rattle.run_meaning.specs.Step.{start}
use Rattle.run.specs.CardSeek.{CardRun}
use Rattle.run_meaning.specs.Flat.{index_by}
use Rattle.library_yanks_bits.specs.SettledBits.{flagged}
use Rattle.run.specs.Corrected.{titled}
use Rattle.run.specs.Desk.{HeldUnder}
use Rattle.run.specs.declared.desk.Desk.{Desk}
use Rattle.run.specs.declared.seek.Place.{Place}

abbrev pub NoFlags : List ℕ → Type 0
NoFlags flags = (m : ℕ) → flagged flags m ≡ false

-- the numbers of the names of a deck list, YANK$$$ left out, in a directory
abbrev pub listed_numbers : List ℕ → List ℕ → List ℕ
listed_numbers directory list = map (entry_of directory) (drop 1 list)

abbrev pub FlagsDecks : List ℕ → List ℕ → List ℕ → Type 0
FlagsDecks directory list flags = (m : ℕ) → flagged flags m ≡ member m (listed_numbers directory list)

-- THE FIRST DECK CARD among the cards below `to`: how many cards stand ahead of it, and how many words
abbrev pub titled_card : List ℕ → Card → Bool
titled_card decks c = titled decks c.owner c.seq

pub record Titled (decks : List ℕ) (yk : ℕ → Bool) (cs : List Card) (r : Place) : Type 0 where
  pub index : r.index ≡ index_by (titled_card decks) cs
  pub at : r.at ≡ length (cards_words yk (take (index_by (titled_card decks) cs) cs))

abbrev pub FindsTitle : List ℕ → ℕ → List ℕ → Place → Type 0
FindsTitle w to decks r = (yk : ℕ → Bool) (cs : List Card) (rest : List ℕ) → CardRun w 0 to yk cs rest → Titled decks yk cs r

-- THE LIBRARY
abbrev pub Loads : List ℕ → List ℕ → List ℕ → List ℕ → List ℕ → Desk → Type 0
Loads old w dir names decks d = (l : Library) → check old ≡ good l → HeldUnder (yanked l 0) w dir names decks d (start l)
