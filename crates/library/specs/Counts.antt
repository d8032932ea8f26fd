-- MEANING. The limits of a library by its counts (RULES, "Limits"; row 31).
--   count_tests, within_counts
use Rattle.std.specs.Prelude.{ℕ, Bool, List, [], ◌∷◌, leb}
use Rattle.words.specs.Base.{all_of}

-- so many entries, decks with YANK$$$, cards and words
abbrev pub count_tests : ℕ → ℕ → ℕ → ℕ → List Bool
count_tests entries decks cards words = leb entries 1023 ∷ leb decks 255 ∷ leb cards 16383 ∷ leb words 65536 ∷ []

unfoldable pub within_counts : ℕ → ℕ → ℕ → ℕ → Bool
within_counts entries decks cards words = all_of (count_tests entries decks cards words)
