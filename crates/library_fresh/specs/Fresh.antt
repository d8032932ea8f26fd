-- MEANING. The fresh library (RULES, "Fresh library"; row 32).
--   its words in a space    freshing, begun_into, fresh_into
--   the table's numbers     begun_number, begun_value
use Rattle.std.specs.Prelude.{ℕ, Option, None, Some, List, ◌++◌, ltb, length, drop, if◌then◌else◌}
use Rattle.library.specs.Library.{fresh}
use Rattle.library.specs.Image.{encode}

-- ITS WORDS: the header, the counts and YANK$$$; 32 where the space has fewer words
unfoldable pub freshing : ℕ → Option ℕ
freshing room = if ltb room (length (encode fresh)) then None else Some (length (encode fresh))

abbrev pub begun_into : Option ℕ → List ℕ → List ℕ
begun_into (Some n) space = encode fresh ++ drop n space
begun_into None space = space

abbrev pub fresh_into : List ℕ → List ℕ
fresh_into space = begun_into (freshing (length space)) space

-- THE TABLE'S NUMBERS
abbrev pub begun_number : Option ℕ → ℕ
begun_number (Some n) = 0
begun_number None = 32

abbrev pub begun_value : Option ℕ → ℕ
begun_value (Some n) = n
begun_value None = 0
