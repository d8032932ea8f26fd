-- CODE. The one right form of a text, code by code (RULES, "Text"). That it is `is_text`: `form-is-text` in proofs/OneForm.antt.
--   what may follow      full, one, free, signed, start, ended, pair_or_end, pair_next, colon_next, refused
--   one code             zero_after, gap_after, first_code, end_after, second_code, fill_after, step, fields_from, fields_of, columns_in
--   codes                after, count, may_end
--   words                after_word, count_word, ends_full, in_form
use Rattle.std.specs.Prelude.{ℕ, zero, suc, ◌+◌, ◌*◌, Bool, true, ◌&&◌, not, List, [], ◌∷◌, eqb, ltb, leb, if◌then◌else◌}
use Rattle.words.specs.Base.{all, is_word}
use Rattle.words.specs.Text.{gap, low_codes, all_codes}

-- WHAT MAY FOLLOW
-- after two 55s, or after 0002 to 0076: a sign
abbrev pub full : ℕ
full = 0

-- after one 55 that is not the leading blank's: another, or a sign
abbrev pub one : ℕ
one = 1

-- after the leading blank, or after 0077: a run, or a sign
abbrev pub free : ℕ
free = 2

-- after a sign: a run, a sign, or the end of the line
abbrev pub signed : ℕ
signed = 3

-- ahead of the first code: a leading blank, or a sign
abbrev pub start : ℕ
start = 4

-- after the end of the line: zero fill
abbrev pub ended : ℕ
ended = 5

-- after a 0, whose second code says what it is: a colon, a run or the line's end; a colon or a run; a colon
abbrev pub pair_or_end : ℕ
pair_or_end = 6

abbrev pub pair_next : ℕ
pair_next = 7

abbrev pub colon_next : ℕ
colon_next = 8

abbrev pub refused : ℕ
refused = 9

-- ONE CODE: what may follow it
abbrev pub zero_after : ℕ → ℕ
zero_after s = if eqb s signed then pair_or_end else if eqb s free then pair_next else colon_next

abbrev pub gap_after : ℕ → ℕ
gap_after s = if eqb s start then free else if eqb s full then refused else if eqb s one then full else one

abbrev pub first_code : ℕ → ℕ → ℕ
first_code s c = if eqb c 0 then zero_after s else if eqb c gap then gap_after s else signed

abbrev pub end_after : ℕ → ℕ
end_after s = if eqb s pair_or_end then ended else refused

abbrev pub second_code : ℕ → ℕ → ℕ
second_code s c =
    if eqb c 1 then signed
    else if eqb c 0 then end_after s
    else if eqb s colon_next then refused
    else if eqb c 0o77 then free
    else full

abbrev pub fill_after : ℕ → ℕ
fill_after c = if eqb c 0 then ended else refused

abbrev pub step : ℕ → ℕ → ℕ
step s c =
    if ltb s ended then first_code s c
    else if eqb s ended then fill_after c
    else if ltb s refused then second_code s c
    else refused

-- what may follow a code in one number, six bits for each thing ahead of it, the first lowest
abbrev pub fields_from : ℕ → ℕ → ℕ → ℕ
fields_from c s zero = 0
fields_from c s (suc n) = 6 * step s c + 64 * fields_from c (suc s) n

unfoldable pub fields_of : ℕ → ℕ
fields_of c = fields_from c 0 10

-- the columns that a code brings, by itself or as the second of a pair
abbrev pub columns_in : ℕ → ℕ → ℕ
columns_in s c = if ltb s pair_or_end then (if eqb c 0 then 0 else 1) else if ltb c 2 then c else suc c

-- CODES
abbrev pub after : ℕ → List ℕ → ℕ
after s [] = s
after s (c ∷ cs) = after (step s c) cs

abbrev pub count : ℕ → List ℕ → ℕ
count s [] = 0
count s (c ∷ cs) = columns_in s c + count (step s c) cs

abbrev pub may_end : ℕ → Bool
may_end s = leb signed s && leb s pair_or_end

-- WORDS
-- after a whole word
unfoldable pub after_word : ℕ → ℕ → ℕ
after_word s w = after s (low_codes 10 w [])

unfoldable pub count_word : ℕ → ℕ → ℕ
count_word s w = count s (low_codes 10 w [])

-- the last word is not all fill: there is no word more than needed
abbrev pub ends_full : List ℕ → Bool
ends_full [] = true
ends_full (w ∷ []) = not (eqb w 0)
ends_full (w ∷ v ∷ r) = ends_full (v ∷ r)

unfoldable pub in_form : List ℕ → Bool
in_form ws = all is_word ws && ends_full ws && may_end (after start (all_codes ws)) && leb (count start (all_codes ws)) 80
