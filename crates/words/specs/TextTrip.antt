-- PROMISE. Text goes to words and back, and words to text and back (RULES, "Text"): every line has one form, and no other is accepted.
--   the chart      LetterOfCode, CodeOfLetter
--   a line         SaysWritten, WrittenIsText, WrittenFits, TrimmedTheSame
--   text           WrittenSays
use Rattle.std.specs.Prelude.{ℕ, ◌≤◌, ◌<◌, ◌≡◌, true, List, length}
use Rattle.words.specs.Base.{all}
use Rattle.words.specs.Display.{code_of, in_chart, letter}
use Rattle.words.specs.Text.{trim, text_words, says, is_text}

-- the chart has each byte once
abbrev pub LetterOfCode : Type 0
LetterOfCode = (b : ℕ) → in_chart b ≡ true → letter (code_of b) ≡ b

abbrev pub CodeOfLetter : Type 0
CodeOfLetter = (c : ℕ) → c < 64 → code_of (letter c) ≡ c

-- the words of a line say the line without its trailing blanks, whatever its length
abbrev pub SaysWritten : Type 0
SaysWritten = (l : List ℕ) → all in_chart l ≡ true → says (text_words l) ≡ trim l

-- and for 0 to 80 columns they are accepted, and at most 16
abbrev pub WrittenIsText : Type 0
WrittenIsText = (l : List ℕ) → all in_chart l ≡ true → length l ≤ 80 → is_text (text_words l) ≡ true

abbrev pub WrittenFits : Type 0
WrittenFits = (l : List ℕ) → length l ≤ 80 → length (text_words l) ≤ 16

abbrev pub TrimmedTheSame : Type 0
TrimmedTheSame = (l : List ℕ) → text_words (trim l) ≡ text_words l

-- accepted words are the words of the line that they say
abbrev pub WrittenSays : Type 0
WrittenSays = (ws : List ℕ) → is_text ws ≡ true → text_words (says ws) ≡ ws
