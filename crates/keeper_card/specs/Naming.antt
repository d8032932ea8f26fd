-- MEANING. What the keeper of libraries is told of a card, and the answers of what is shown (RULES, "Names and numbers"; row 53).
--   a card              entry_name, card_name
--   what is shown       Showing, in_space, of_checked, card_shown, naming
--   the answer          told, show_into, told_number, told_value
use Rattle.std.specs.Prelude.{ℕ, List, [], ◌∷◌, ◌++◌, leb, length, drop, if◌then◌else◌, Result, Ok, Err}
use Rattle.words.specs.Display.{point}
use Rattle.words.specs.Names.{name_of, numeral}
use Rattle.library.specs.Library.{Library, name_at}
use Rattle.library.specs.Sound.{is_entry}
use Rattle.library.specs.Check.{Checking, good, bad, check, fault_number}
use Rattle.library.specs.declared.Fault.{Fault}
use Rattle.keeper_card.specs.declared.ShowRefused.{ShowRefused}
use Rattle.keeper_card.specs.declared.ShowRefused.TheVariants.{Library as OfLibrary, Space}

-- A CARD: the letters of an entry's name; none outside the directory, and none of a purged one
unfoldable pub entry_name : List ℕ → ℕ → List ℕ
entry_name directory n = if is_entry directory n then name_of (name_at directory n) else []

-- a card's name: that of its owner, a point, its sequence number
abbrev pub card_name : Library → ℕ → ℕ → List ℕ
card_name l owner seq = entry_name l.directory owner ++ (point ∷ numeral seq)

-- WHAT IS SHOWN: the number that is answered, and the bytes; or the check's row and place; or that the bytes do not fit the space
pub data Showing : Type 0 where
  shows : ℕ → List ℕ → Showing
  not_sound : Fault → ℕ → Showing
  too_long : Showing

abbrev pub in_space : ℕ → ℕ → List ℕ → Showing
in_space room n bs = if leb (length bs) room then shows n bs else too_long

abbrev pub of_checked : (Library → Showing) → Checking → Showing
of_checked f (good l) = f l
of_checked f (bad k p) = not_sound k p

-- a card's name, with its length
abbrev pub card_shown : ℕ → ℕ → ℕ → Library → Showing
card_shown owner seq room l = in_space room (length (card_name l owner seq)) (card_name l owner seq)

unfoldable pub naming : List ℕ → ℕ → ℕ → ℕ → Showing
naming image owner seq room = of_checked (card_shown owner seq room) (check image)

-- THE ANSWER, and what the lent space then holds: the bytes shown at its front, and all else as it was
abbrev pub told : Showing → Result ℕ ShowRefused
told (shows n bs) = Ok n
told (not_sound k p) = Err (OfLibrary (record { fault = k; place = p }))
told too_long = Err Space

abbrev pub show_into : Showing → List ℕ → List ℕ
show_into (shows n bs) space = bs ++ drop (length bs) space
show_into (not_sound k p) space = space
show_into too_long space = space

-- THE TABLE'S NUMBERS: the row, 53 where the result does not fit the space; then the count, or the place
abbrev pub told_number : Result ℕ ShowRefused → ℕ
told_number (Ok n) = 0
told_number (Err (OfLibrary r)) = fault_number r.fault
told_number (Err Space) = 53

abbrev pub told_value : Result ℕ ShowRefused → ℕ
told_value (Ok n) = n
told_value (Err (OfLibrary r)) = r.place
told_value (Err Space) = 0
