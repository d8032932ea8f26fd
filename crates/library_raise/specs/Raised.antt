-- MEANING. Directory numbers raised by n in the history bytes of cards (RULES, "The merge"), in words that need not be a library's.
--   a byte, a word          byte_raised, word_raised
--   further history words   further_raised
--   a card                  own_raised, card_raised
--   cards                   raised_words
use Rattle.std.specs.Prelude.{ℕ, ◌+◌, ◌*◌, ◌/◌, ◌%◌, ◌^◌, List, [], ◌∷◌, eqb, length, if◌then◌else◌}
use Rattle.library.specs.Check.{is_last_word}
use Rattle.library.specs.CardWords.{cards_by}

-- a byte with its number, bits 15-00, raised, and bits 17 and 16 as they are; an unused byte is zero and stays. Numbers go round at 2^16
unfoldable pub byte_raised : ℕ → ℕ → ℕ
byte_raised n b = if eqb b 0 then 0 else (b / 65536 * 65536 + (b % 65536 + n) % 65536)

-- a further history word: its three bytes, and what is above them stays
unfoldable pub word_raised : ℕ → ℕ → ℕ
word_raised n x =
    x / 2 ^ 54 * 2 ^ 54 + byte_raised n (x / 2 ^ 36 % 2 ^ 18) * 2 ^ 36 + byte_raised n (x / 2 ^ 18 % 2 ^ 18) * 2 ^ 18 + byte_raised n (x % 2 ^ 18)

-- FURTHER HISTORY WORDS: up to and with the last, which has bit 59, or to the end; what follows stays
unfoldable pub further_raised : ℕ → List ℕ → List ℕ
further_raised n [] = []
further_raised n (x ∷ xs) = word_raised n x ∷ (if is_last_word x then xs else (further_raised n xs))

-- A CARD: its first word has one byte, the owner's; above that byte are the sequence number, the words of text and the bits, which stay
abbrev pub own_raised : ℕ → ℕ → ℕ
own_raised n x = x / 2 ^ 18 * 2 ^ 18 + byte_raised n (x % 2 ^ 18)

unfoldable pub card_raised : ℕ → List ℕ → List ℕ
card_raised n [] = []
card_raised n (x ∷ xs) = own_raised n x ∷ (if is_last_word x then xs else (further_raised n xs))

-- CARDS, each of a word at least
abbrev pub raised_words : ℕ → List ℕ → List ℕ
raised_words n w = cards_by (card_raised n) (length w) w
