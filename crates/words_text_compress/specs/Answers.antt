-- MEANING. What compressing a line answers (RULES, "Text", "Lines"; rows 20 and 21).
--   line to words          compressing, compress_into
--   the table's numbers    compressed_number
use Rattle.std.specs.Prelude.{ℕ, Result, Ok, Err, not, List, ◌++◌, ltb, length, drop, if◌then◌else◌}
use Rattle.words.specs.Base.{all}
use Rattle.words.specs.Display.{in_chart}
use Rattle.words.specs.Text.{text_words}
use Rattle.words_text_compress.specs.declared.LineRefused.{LineRefused}
use Rattle.words_text_compress.specs.declared.LineRefused.TheVariants.{Outside, Long}

-- LINE TO WORDS
-- 20 where any byte of the line is no character; then 21 where it has over 80 columns
unfoldable pub compressing : List ℕ → Result ℕ LineRefused
compressing l =
    if not (all in_chart l) then Err Outside
    else if ltb 80 (length l) then Err Long
    else Ok (length (text_words l))

unfoldable pub compress_into : List ℕ → List ℕ → List ℕ
compress_into l space = elim (compressing l) [ Ok n ↦ text_words l ++ drop n space | Err e ↦ space ]

-- THE TABLE'S NUMBERS
abbrev pub compressed_number : Result ℕ LineRefused → ℕ
compressed_number (Ok n) = 0
compressed_number (Err Outside) = 20
compressed_number (Err Long) = 21
