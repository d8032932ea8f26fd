-- CODE. What the parts of the functions answer.
--   of a space           Answers, AnswersOf
--   a name               word_name, entry_word, pointed
use Rattle.std.specs.Prelude.{ℕ, ◌+◌, ◌≡◌, List, [], ◌∷◌, ◌++◌, eqb, ltb, get_or, if◌then◌else◌, Result}
use Rattle.words.specs.Names.{name_of, is_name_word, numeral}
use Rattle.library.specs.Library.{Library}
use Rattle.library.specs.Check.{good, check, directory_count}
use Rattle.keeper_card.specs.Naming.{Showing, told, show_into}
use Rattle.keeper_card.specs.declared.ShowRefused.{ShowRefused}

-- OF A SPACE: both answers; and those of an image that the check accepts
abbrev pub Answers : Showing → Result ℕ ShowRefused → List ℕ → List ℕ → Type 0
Answers s r before after = (r ≡ told s) × (after ≡ show_into s before)

abbrev pub AnswersOf : List ℕ → (Library → Showing) → Result ℕ ShowRefused → List ℕ → List ℕ → Type 0
AnswersOf ws f r before after = (l : Library) → check ws ≡ good l → Answers (f l) r before after

-- A NAME: the letters of a word, none where it is no name's; the word of an entry, 0 outside the directory
unfoldable pub word_name : ℕ → List ℕ
word_name w = if is_name_word w then name_of w else []

unfoldable pub entry_word : List ℕ → ℕ → ℕ
entry_word ws n = if eqb n 0 then 0 else if ltb (directory_count ws) n then 0 else get_or ws (n + 1) 0

abbrev pub pointed : List ℕ → ℕ → List ℕ
pointed name seq = name ++ (46 ∷ numeral seq)
