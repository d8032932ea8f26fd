-- PROMISE. Cases of what the keeper is shown.
--   a library     sample
--   the cases     shown_as, answers, keeper_cases, KeeperCases
use Rattle.std.specs.Prelude.{ℕ, Bool, true, false, ◌&&◌, List, [], ◌∷◌, T, eqb}
use Prim.Native.String.{String}
use Rattle.words.specs.Base.{all_of, same, bytes}
use Rattle.words.specs.Names.{name_word}
use Rattle.library.specs.Library.{Library, fresh, purged}
use Rattle.library.specs.Image.{encode}
use Rattle.keeper_card.specs.Naming.{Showing, shows, not_sound, too_long, naming, told, told_number, told_value}
use Rattle.keeper_directory.specs.Keeper.{listing}

-- a deck with a card of its own and one of ONE, a purged entry, a common deck, and TWO, which yanks ONE
abbrev pub sample : Library
sample =
    record {
      directory = name_word (bytes "PUMP") ∷ name_word (bytes "ONE") ∷ purged ∷ name_word (bytes "LIB") ∷ name_word (bytes "TWO") ∷ [];
      yanks = record { line = bytes "*YANK ONE"; seq = 1; owner = 5; later = [] } ∷ [];
      decks =
          record {
            number = 1;
            common = false;
            line = bytes "*DECK PUMP";
            cards = record { line = bytes " A=1"; seq = 2; owner = 1; later = [] } ∷ record { line = bytes " A=3"; seq = 1; owner = 2; later = [] } ∷ [];
          }
          ∷ record { number = 4; common = true; line = bytes "*COMDECK LIB"; cards = [] } ∷ [];
    }

-- these bytes, answered with this number; this row, with this value
abbrev pub shown_as : Showing → ℕ → String → Bool
shown_as (shows n bs) k s = eqb n k && same bs (bytes s)
shown_as (not_sound f p) k s = false
shown_as too_long k s = false

abbrev pub answers : Showing → ℕ → ℕ → Bool
answers s row value = eqb (told_number (told s)) row && eqb (told_value (told s)) value

abbrev pub keeper_cases : List Bool
keeper_cases =
    -- both sides of the space
    shown_as (listing (encode sample) 55) 5 "PUMP     D ONE      SY         P LIB      C TWO      S "
    ∷ answers (listing (encode sample) 54) 53 0
    ∷ shown_as (listing (encode fresh) 0) 0 ""
    ∷ shown_as (naming (encode sample) 1 3 6) 6 "PUMP.3"
    ∷ answers (naming (encode sample) 1 3 5) 53 0
    -- no entry, a purged one, one past the directory
    ∷ shown_as (naming (encode sample) 0 3 9) 2 ".3"
    ∷ shown_as (naming (encode sample) 3 3 9) 2 ".3"
    ∷ shown_as (naming (encode sample) 6 262143 9) 7 ".262143"
    -- the check's row and place
    ∷ answers (listing (0 ∷ []) 99) 1 1
    ∷ answers (naming (0 ∷ 1 ∷ 0 ∷ []) 1 1 99) 2 0 ∷ []

unfoldable pub KeeperCases : Type 0
KeeperCases = T (all_of keeper_cases)
