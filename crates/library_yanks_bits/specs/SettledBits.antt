-- CODE. Yank and activity bits settled for flags (RULES, "When a card is active"), in words that need not be a library's.
--   the flags               flagged
--   a byte, a word          fix_byte, fix_word, say_byte, say_word
--   further history words   further_bits, further_says
--   a card                  own_bits, own_says, with_active, card_bits
--   cards                   settled_words
use Rattle.std.specs.Prelude.{ℕ, ◌+◌, ◌-◌, ◌*◌, ◌/◌, ◌%◌, ◌^◌, Bool, not, List, [], ◌∷◌, eqb, leb, length, get_or, if◌then◌else◌}
use Rattle.library.specs.Image.{bit}
use Rattle.library.specs.Check.{is_last_word}
use Rattle.library.specs.CardWords.{cards_by}

-- the flags as lent: flag n is not 0 where n is yanked
unfoldable pub flagged : List ℕ → ℕ → Bool
flagged f n = not (eqb (get_or f n 0) 0)

-- a byte with its yank bit set anew; a further history word with three
unfoldable pub fix_byte : (ℕ → Bool) → ℕ → ℕ
fix_byte yk b = bit (yk (b % 65536)) 17 + b % 131072

unfoldable pub fix_word : (ℕ → Bool) → ℕ → ℕ
fix_word yk x = x / 2 ^ 54 * 2 ^ 54 + fix_byte yk (x / 2 ^ 36 % 2 ^ 18) * 2 ^ 36 + fix_byte yk (x / 2 ^ 18 % 2 ^ 18) * 2 ^ 18 + fix_byte yk (x % 2 ^ 18)

-- what a byte says of activity, after what was said so far: an unused or a yanked one says nothing
unfoldable pub say_byte : ℕ → ℕ → ℕ
say_byte so b = if eqb b 0 then so else (if leb 131072 b then so else (b / 65536))

unfoldable pub say_word : ℕ → ℕ → ℕ
say_word so y = say_byte (say_byte (say_byte so (y / 2 ^ 36 % 2 ^ 18)) (y / 2 ^ 18 % 2 ^ 18)) (y % 2 ^ 18)

-- FURTHER HISTORY WORDS: up to and with the last, which has bit 59, or to the end; what follows stays
unfoldable pub further_bits : (ℕ → Bool) → List ℕ → List ℕ
further_bits yk [] = []
further_bits yk (x ∷ xs) = fix_word yk x ∷ (if is_last_word x then xs else (further_bits yk xs))

unfoldable pub further_says : (ℕ → Bool) → ℕ → List ℕ → ℕ
further_says yk so [] = so
further_says yk so (x ∷ xs) = if is_last_word x then (say_word so (fix_word yk x)) else (further_says yk (say_word so (fix_word yk x)) xs)

-- A CARD: its first word with the owner's byte settled and the activity bit as the bytes say, its further history words; what follows stays
abbrev pub own_bits : (ℕ → Bool) → ℕ → ℕ
own_bits yk x = x / 2 ^ 18 * 2 ^ 18 + fix_byte yk (x % 2 ^ 18)

abbrev pub own_says : (ℕ → Bool) → ℕ → ℕ
own_says yk x = say_byte 0 (fix_byte yk (x % 2 ^ 18))

abbrev pub with_active : ℕ → ℕ → ℕ
with_active y so = y - y / 2 ^ 58 % 2 * 2 ^ 58 + so * 2 ^ 58

unfoldable pub card_bits : (ℕ → Bool) → List ℕ → List ℕ
card_bits yk [] = []
card_bits yk (x ∷ xs) =
    if is_last_word x then (with_active (own_bits yk x) (own_says yk x) ∷ xs)
    else (with_active (own_bits yk x) (further_says yk (own_says yk x) xs) ∷ further_bits yk xs)

-- CARDS, each of a word at least
abbrev pub settled_words : (ℕ → Bool) → List ℕ → List ℕ
settled_words yk w = cards_by (card_bits yk) (length w) w
