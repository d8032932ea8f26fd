-- PROMISE. Names go to words and back, and numbers to digits and back (RULES, "Names and numbers").
--   names      NameOfWord, WordOfNameIsOne, WordOfItsName
--   numbers    ReadOfWritten
use Rattle.std.specs.Prelude.{ℕ, ◌≤◌, ◌<◌, ◌≡◌, true, List}
use Rattle.words.specs.Names.{is_name, name_word, name_of, is_name_word, numeral, number_read}

-- the letters of a name's word are the name
abbrev pub NameOfWord : Type 0
NameOfWord = (n : List ℕ) → is_name n ≡ true → name_of (name_word n) ≡ n

-- so the word is a name's
abbrev pub WordOfNameIsOne : Type 0
WordOfNameIsOne = (n : List ℕ) → is_name n ≡ true → is_name_word (name_word n) ≡ true

-- a name's word is the word of its letters
abbrev pub WordOfItsName : Type 0
WordOfItsName = (w : ℕ) → is_name_word w ≡ true → name_word (name_of w) ≡ w

-- a number that a card may have is read back from its digits
abbrev pub ReadOfWritten : Type 0
ReadOfWritten = (n : ℕ) → 0 < n → n ≤ 262143 → number_read (numeral n) ≡ n
