-- PROMISE. What an accepted run makes of a library (RULES, "The run"): the old cards all stay, in their order; lines of text, YANK lines and
-- lines that start a deck bring in one card each, other lines none; and where no line starts a unit, nothing changes.
--   cards added       cards_of, cards_added
--   the new library   Passes, Kept
--   of a library      UpdateKept
--   of an image       R4, R5, RunIdle
use Rattle.std.specs.Prelude.{ℕ, ◌+◌, ◌≤◌, ◌≡◌, List, [], ◌∷◌, T, length}
use Rattle.words_lines.specs.Directive.{directive, lines}
use Rattle.words_lines.specs.declared.Line.{Line}
use Rattle.words_lines.specs.declared.Line.TheVariants.{Text, Skipped, Deck as DeckLine·, Comdeck, Ident, Insert, Before, Delete, Restore, Yank as YankLine, Outside as LineOutside, Long as LineLong, Malformed as LineMalformed, NotCarried as LineNotCarried}
use Rattle.library.specs.Library.{Library, stream}
use Rattle.library.specs.Image.{encode}
use Rattle.library.specs.Check.{good, check}
use Rattle.library.specs.Sound.{Sound}
use Rattle.library.specs.Growth.{count, GrownCards, Growth}
use Rattle.run_meaning.specs.Run.{updated, update, new_library, running}
use Rattle.run_meaning.specs.Units.{names_of}
use Rattle.run_meaning.specs.Cut.{no_units}

-- the cards that an accepted line adds: a text line, a YANK line and the line that starts a deck unit one each
abbrev pub cards_of : Line → ℕ
cards_of Text = 1
cards_of YankLine = 1
cards_of (DeckLine· w) = 1
cards_of (Comdeck w) = 1
cards_of (Ident w) = 0
cards_of (Insert r) = 0
cards_of (Before r) = 0
cards_of (Delete a b) = 0
cards_of (Restore a b) = 0
cards_of Skipped = 0
cards_of LineOutside = 0
cards_of LineLong = 0
cards_of LineMalformed = 0
cards_of LineNotCarried = 0

abbrev pub cards_added : List (List ℕ) → ℕ
cards_added [] = 0
cards_added (l ∷ ls) = cards_of (directive l) + cards_added ls

-- the new library is sound, its image passes the check and is read as that library, and is within row 1 and the lent space
pub record Passes (room : ℕ) (new : Library) : Type 0 where
  pub sound : Sound new
  pub accepted : check (encode new) ≡ good new
  pub short : length (encode new) ≤ 65536
  pub fits : length (encode new) ≤ room

-- the old library after these lines
pub record Kept (old : Library) (ls : List (List ℕ)) (new : Library) : Type 0 where
  -- so many cards more
  pub cards : length (stream new) ≡ length (stream old) + cards_added ls
  -- the old cards in their order, each with its line, its number and its owner, its history followed by bytes of the new units
  pub order : GrownCards (count old) (count new) (stream old) (stream new)
  -- and in their decks, with the units' names at the directory's end
  pub growth : Growth old (names_of ls) new
  -- without units the old library
  pub idle : T (no_units ls) → new ≡ old

-- a sound library after an accepted stream
abbrev pub UpdateKept : Type 0
UpdateKept = (old : Library) (x : List ℕ) (room : ℕ) (new : Library) → Sound old → update old x room ≡ updated new → Kept old (lines x) new

-- R4: the result of an accepted run passes the check.
abbrev pub R4 : Type 0
R4 = (image x : List ℕ) (room : ℕ) (new : Library) → running image x room ≡ new_library new → Passes room new

-- R5: an accepted run keeps every card of the library that it read and adds those of its lines.
abbrev pub R5 : Type 0
R5 = (image x : List ℕ) (room : ℕ) (old new : Library) → check image ≡ good old → running image x room ≡ new_library new → Kept old (lines x) new

-- and where its stream has no units, it writes the image that it read
abbrev pub RunIdle : Type 0
RunIdle = (image x : List ℕ) (room : ℕ) (new : Library) → T (no_units (lines x)) → running image x room ≡ new_library new → encode new ≡ image
