-- MEANING. What expanding words answers (RULES, "Text"; row 6).
--   words to line          expanding, expand_into
--   the table's numbers    expanded_number
use Rattle.std.specs.Prelude.{ℕ, Option, Some, None, List, ◌++◌, length, drop, if◌then◌else◌}
use Rattle.words.specs.Text.{says, is_text}

-- WORDS TO LINE
unfoldable pub expanding : List ℕ → Option ℕ
expanding ws = if is_text ws then Some (length (says ws)) else None

unfoldable pub expand_into : List ℕ → List ℕ → List ℕ
expand_into ws space = elim (expanding ws) [ Some n ↦ says ws ++ drop n space | None ↦ space ]

-- THE TABLE'S NUMBERS
abbrev pub expanded_number : Option ℕ → ℕ
expanded_number (Some n) = 0
expanded_number None = 6
