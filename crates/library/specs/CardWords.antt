-- MEANING. Cards one after another in words that need not be a library's: how many words each has (RULES, "Cards").
--   further_len   further history words: up to and with the last, or to the end
--   card_len      a card's words
--   cards_by      each card by a function
use Rattle.std.specs.Prelude.{ℕ, zero, suc, ◌+◌, ◌/◌, ◌%◌, ◌^◌, List, [], ◌∷◌, ◌++◌, take, drop, if◌then◌else◌}
use Rattle.library.specs.Check.{is_last_word}

unfoldable pub further_len : List ℕ → ℕ
further_len [] = 0
further_len (x ∷ xs) = if is_last_word x then 1 else (suc (further_len xs))

-- its words of history, and as many of text as the first of them counts
unfoldable pub card_len : List ℕ → ℕ
card_len [] = 0
card_len (x ∷ xs) = 1 + (if is_last_word x then 0 else (further_len xs)) + x / 2 ^ 36 % 2 ^ 18

-- at most k cards, each by f, which is given the words from the card on and keeps what follows it
unfoldable pub cards_by : (List ℕ → List ℕ) → ℕ → List ℕ → List ℕ
cards_by f zero w = w
cards_by f (suc k) w = let v : List ℕ = f w in take (card_len w) v ++ cards_by f k (drop (card_len w) v)
