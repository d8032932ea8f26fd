-- MEANING. A line and the words it is written in (RULES, "Text"). A line is the list of its bytes, one to a column.
--   without trailing blanks      trim
--   line to codes                gap, short_run, long_runs, blanks, sign, squeeze, compress
--   codes to words and back      fill, words_of, low_codes, all_codes
--   line to words                text_words
--   words to line                columns_of, says, is_text
use Rattle.std.specs.Prelude.{ℕ, zero, suc, ◌+◌, ◌-◌, ◌*◌, ◌/◌, ◌%◌, ◌^◌, Bool, ◌&&◌, List, [], ◌∷◌, ◌++◌, map, eqb, ltb, leb, length, replicate, if◌then◌else◌}
use Rattle.words.specs.Base.{same, is_nil}
use Rattle.words.specs.Display.{code_of, letter, blank}

-- a line without the blanks at its end
abbrev pub trim : List ℕ → List ℕ
trim [] = []
trim (x ∷ xs) = let r = trim xs in if eqb x blank && is_nil r then [] else (x ∷ r)

-- LINE TO CODES
-- a blank's code
abbrev pub gap : ℕ
gap = 0o55

-- a run of n blanks: 00 77 for 64 of them while more than 64 are left; then one or two are 55 each, and 3 to 64 are 00 and one less than their count
abbrev pub short_run : ℕ → List ℕ
short_run n = if ltb n 3 then replicate n gap else (0 ∷ (n - 1) ∷ [])

abbrev pub long_runs : ℕ → List ℕ → List ℕ
long_runs zero r = r
long_runs (suc k) r = 0 ∷ 0o77 ∷ long_runs k r

unfoldable pub blanks : ℕ → List ℕ
blanks n = let k = (n - 1) / 64 in long_runs k (short_run (n - 64 * k))

-- a code as it is written: the colon's, 0, as 00 01, any other as itself
abbrev pub sign : ℕ → List ℕ → List ℕ
sign zero r = 0 ∷ 1 ∷ r
sign (suc c) r = suc c ∷ r

-- the rest of a line after n blanks
abbrev pub squeeze : ℕ → List ℕ → List ℕ
squeeze n [] = []
squeeze n (c ∷ cs) = if eqb c gap then squeeze (suc n) cs else (blanks n ++ sign c (squeeze 0 cs))

-- a blank in column 1 is 55 for itself; the blanks after it are a run of their own, like any others
abbrev pub compress : List ℕ → List ℕ
compress [] = []
compress (c ∷ cs) = if eqb c gap then (gap ∷ squeeze 0 cs) else squeeze 0 (c ∷ cs)

-- CODES TO WORDS: ten in each, zeros after the last one; w is the word so far, with k of its places left
abbrev pub fill : ℕ → ℕ → List ℕ → List ℕ
fill w k [] = if eqb k 10 then [] else (w * 64 ^ k ∷ [])
fill w zero (x ∷ xs) = w ∷ fill x 9 xs
fill w (suc k) (x ∷ xs) = fill (w * 64 + x) k xs

unfoldable pub words_of : List ℕ → List ℕ
words_of cs = fill 0 10 cs

-- a word's k lowest codes, ahead of r
abbrev pub low_codes : ℕ → ℕ → List ℕ → List ℕ
low_codes zero w r = r
low_codes (suc k) w r = low_codes k (w / 64) (w % 64 ∷ r)

abbrev pub all_codes : List ℕ → List ℕ
all_codes [] = []
all_codes (w ∷ ws) = low_codes 10 w (all_codes ws)

-- LINE TO WORDS
unfoldable pub text_words : List ℕ → List ℕ
text_words l = words_of (compress (map code_of (trim l)))

-- WORDS TO LINE: the columns that codes stand for. After a zero code, 01 makes a colon and each higher code one blank more than its number; two zero codes, or a last one, end the line.
abbrev pub columns_of : List ℕ → List ℕ
columns_of [] = []
columns_of (zero ∷ []) = []
columns_of (zero ∷ zero ∷ r) = []
columns_of (zero ∷ suc zero ∷ r) = 0 ∷ columns_of r
columns_of (zero ∷ suc (suc y) ∷ r) = replicate (1 + suc (suc y)) gap ++ columns_of r
columns_of (suc c ∷ r) = suc c ∷ columns_of r

-- the line that words say, whether or not they are the words that it is written in
unfoldable pub says : List ℕ → List ℕ
says ws = map letter (columns_of (all_codes ws))

-- row 6: words are text where the line that they say has at most 80 columns, and is written in exactly these words
unfoldable pub is_text : List ℕ → Bool
is_text ws = leb (length (says ws)) 80 && same (text_words (says ws)) ws
