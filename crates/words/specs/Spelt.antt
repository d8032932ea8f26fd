-- CODE. Names and numbers as functions on slices answer them: 0 where there is none, and a space that is written or stays.
--   names     word_of_name, name_length, name_into
--   numbers   number_fits, number_into
use Rattle.std.specs.Prelude.{ℕ, Bool, List, ◌++◌, leb, length, drop, if◌then◌else◌}
use Rattle.words.specs.Names.{is_name, name_word, name_of, is_name_word, numeral, right_justified}

-- a name's word; 0, which is no name's, where it is none
unfoldable pub word_of_name : List ℕ → ℕ
word_of_name n = if is_name n then name_word n else 0

-- the letters of a name's word into a space; none where it is no name's
unfoldable pub name_length : ℕ → ℕ
name_length w = if is_name_word w then length (name_of w) else 0

unfoldable pub name_into : ℕ → List ℕ → List ℕ
name_into w space = if is_name_word w then (name_of w ++ drop (length (name_of w)) space) else space

-- a field with a number right justified, or as it was where it is too narrow
abbrev pub number_fits : ℕ → ℕ → Bool
number_fits n width = leb (length (numeral n)) width

unfoldable pub number_into : ℕ → List ℕ → List ℕ
number_into n field = if number_fits n (length field) then right_justified (length field) (numeral n) else field
