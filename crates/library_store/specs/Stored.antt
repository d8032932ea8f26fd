-- CODE. A library's words in a space (RULES, "Header", "Directory", "Deck list", "Cards").
--   a library's words   library_words
--   in a space          room_tests, has_room, library_into
use Rattle.std.specs.Prelude.{ℕ, ◌+◌, ◌*◌, ◌^◌, Bool, List, [], ◌∷◌, ◌++◌, ltb, leb, length, drop, if◌then◌else◌}
use Rattle.words.specs.Base.{all_of}
use Rattle.library.specs.Image.{header}

-- the header, the counts of the two tables, then the directory, the deck list and the cards, which are given in two parts
unfoldable pub library_words : List ℕ → List ℕ → List ℕ → List ℕ → List ℕ
library_words directory decks low high =
    header ∷ (length directory * 2 ^ 18 + length decks) ∷ (directory ++ (decks ++ (low ++ high)))

-- the counts fit their fields, and the words the space
abbrev pub room_tests : List ℕ → List ℕ → List ℕ → List ℕ → ℕ → List Bool
room_tests directory decks low high room =
    ltb (length directory) (2 ^ 18)
    ∷ ltb (length decks) (2 ^ 18)
    ∷ leb (length (library_words directory decks low high)) room ∷ []

unfoldable pub has_room : List ℕ → List ℕ → List ℕ → List ℕ → ℕ → Bool
has_room directory decks low high room = all_of (room_tests directory decks low high room)

-- the space after the library is written, or as it was
unfoldable pub library_into : List ℕ → List ℕ → List ℕ → List ℕ → List ℕ → List ℕ
library_into directory decks low high space =
    let words : List ℕ = library_words directory decks low high in
    if has_room directory decks low high (length space) then (words ++ drop (length words) space) else space
