-- MEANING. Names as words, and decimal numbers (RULES, "Names and numbers", "The compile file").
--   names               is_name_byte, is_name, pack_codes, name_word, name_of, is_name_word
--   numbers as read     is_digit, decimal, is_number, number_read
--   numbers as written  digits, numeral, right_justified
--   columns             left_justified
use Rattle.std.specs.Prelude.{ℕ, zero, suc, ◌+◌, ◌-◌, ◌*◌, ◌/◌, ◌%◌, ◌^◌, Bool, ◌&&◌, not, List, [], ◌∷◌, ◌++◌, map, eqb, ltb, leb, length, take, replicate, if◌then◌else◌}
use Rattle.words.specs.Base.{byte, all, is_nil, take_until}
use Rattle.words.specs.Display.{code_of, letter, blank}
use Rattle.words.specs.Text.{low_codes}

-- a name is one to nine characters, each with a code from 1 to 54 in octal: a letter, a digit, or one of + - * / ( ) $ =
abbrev pub is_name_byte : ℕ → Bool
is_name_byte b = ltb 0 (code_of b) && ltb (code_of b) 0o55

unfoldable pub is_name : List ℕ → Bool
is_name n = not (is_nil n) && leb (length n) 9 && all is_name_byte n

-- a name's word: its codes from bit 59 down, and zeros for what is left of ten
abbrev pub pack_codes : ℕ → ℕ → List ℕ → ℕ
pack_codes w k [] = w * 64 ^ k
pack_codes w k (b ∷ bs) = pack_codes (w * 64 + code_of b) (k - 1) bs

unfoldable pub name_word : List ℕ → ℕ
name_word n = pack_codes 0 10 n

-- the letters of a word, up to the first zero code
unfoldable pub name_of : ℕ → List ℕ
name_of w = map letter (take_until (eqb 0) (low_codes 10 w []))

unfoldable pub is_name_word : ℕ → Bool
is_name_word w = is_name (name_of w) && eqb (name_word (name_of w)) w

-- a card's number: one to six digits, with a value from 1 to 262143
abbrev pub is_digit : ℕ → Bool
is_digit b = leb (byte "0") b && leb b (byte "9")

abbrev pub decimal : ℕ → List ℕ → ℕ
decimal so [] = so
decimal so (b ∷ bs) = decimal (so * 10 + (b - byte "0")) bs

unfoldable pub is_number : List ℕ → Bool
is_number ds = leb (length ds) 6 && all is_digit ds && ltb 0 (decimal 0 ds) && leb (decimal 0 ds) 262143

-- a number as it is read; 0, which is none, where the digits are not so
unfoldable pub number_read : List ℕ → ℕ
number_read ds = if is_number ds then decimal 0 ds else 0

-- a number in decimal, ahead of r, with no zero at its front; k bounds its digits
abbrev pub digits : ℕ → ℕ → List ℕ → List ℕ
digits zero n r = r
digits (suc k) n r = let more = digits k (n / 10) ((byte "0" + n % 10) ∷ r) in if ltb n 10 then ((byte "0" + n) ∷ r) else more

unfoldable pub numeral : ℕ → List ℕ
numeral n = digits 20 n []

-- in n columns: at their left end, with blanks after it, and cut off beyond them; at their right end, with blanks ahead of it
unfoldable pub left_justified : ℕ → List ℕ → List ℕ
left_justified n bs = take n (bs ++ replicate n blank)

unfoldable pub right_justified : ℕ → List ℕ → List ℕ
right_justified n bs = replicate (n - length bs) blank ++ bs
