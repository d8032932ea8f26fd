-- CODE. A line of the compile file (RULES, "The compile file").
--   a line      owner_name, line_for
use Rattle.std.specs.Prelude.{ℕ, List, [], ◌∷◌, ◌++◌, if◌then◌else◌}
use Rattle.words.specs.Display.{blank}
use Rattle.words.specs.Names.{name_of, is_name_word, numeral, left_justified, right_justified}

-- the letters of an owner's word, none where it is no name's
abbrev pub owner_name : ℕ → List ℕ
owner_name w = if is_name_word w then name_of w else []

unfoldable pub line_for : List ℕ → ℕ → ℕ → List ℕ
line_for text name seq =
    left_justified 72 text ++ (blank ∷ (left_justified 9 (owner_name name) ++ (right_justified 8 (numeral seq) ++ (10 ∷ []))))
