-- CODE. A card's heads, the words of its history, and what is read of them (RULES, "Cards").
--   of a card           own_byte, text_of, head_word, heads_of, heads_len, card_of
--   what fits           FitsByte, Fits
--   read of its words   head_len, beyond, Sees, SeesAny, FullAny
use Rattle.std.specs.Prelude.{ℕ, suc, ◌+◌, ◌*◌, ◌/◌, ◌%◌, ◌^◌, ◌≤◌, ◌<◌, ◌≡◌, Bool, true, false, List, [], ◌∷◌, ◌++◌, map, leb, length, drop, get_or, if◌then◌else◌}
use Rattle.words.specs.Text.{text_words}
use Rattle.library.specs.Each.{Each}
use Rattle.library.specs.Library.{Byte, Card, history}
use Rattle.library.specs.Yanks.{active}
use Rattle.library.specs.Image.{bit, byte_bits, head_words, card_words}
use Rattle.run.specs.declared.card.Seen.{Seen}

-- a card's first byte: its owner's, which switches it on
abbrev pub own_byte : Card → Byte
own_byte c = record { number = c.owner; activating = true }

abbrev pub text_of : Card → List ℕ
text_of c = text_words c.line

-- a new card: one byte, its owner's
abbrev pub card_of : List ℕ → ℕ → ℕ → Card
card_of line seq n = record { line = line; seq = seq; owner = n; later = [] }

-- a card's first word
abbrev pub head_word : Bool → Bool → ℕ → ℕ → ℕ → ℕ
head_word end act count seq b = bit end 59 + bit act 58 + count * 2 ^ 36 + seq * 2 ^ 18 + b

-- the words of its history, and how many: that does not depend on what is yanked
unfoldable pub heads_of : (ℕ → Bool) → Card → List ℕ
heads_of yk c = head_words (active yk c) (length (text_of c)) c.seq (map (byte_bits yk) (history c))

unfoldable pub heads_len : Card → ℕ
heads_len c = length (heads_of (λ n. false) c)

-- WHAT FITS: the fields of the layout hold the numbers, and the history has at most 64 bytes
abbrev pub FitsByte : Byte → Type 0
FitsByte b = (0 < b.number) × (b.number < 2 ^ 16)

pub record Fits (c : Card) : Type 0 where
  pub count : length (text_of c) < 2 ^ 18
  pub above : 0 < c.seq
  pub below : c.seq < 2 ^ 18
  pub first : FitsByte (own_byte c)
  pub later : Each FitsByte c.later
  pub short : length c.later ≤ 63

-- READ: the words up to and with the first that has bit 59, which is the last of a history
unfoldable pub head_len : List ℕ → ℕ
head_len [] = 0
head_len (x ∷ xs) = if leb (2 ^ 59) x then 1 else suc (head_len xs)

-- the word after the card that begins at `at`: past its heads, and past the words of text that its first head counts
abbrev pub beyond : List ℕ → ℕ → ℕ
beyond w at = at + head_len (drop at w) + get_or w at 0 / 2 ^ 36 % 2 ^ 18

-- what is seen of a card
pub record Sees (yk : ℕ → Bool) (c : Card) (r : Seen) : Type 0 where
  pub owner : r.owner ≡ c.owner
  pub seq : r.seq ≡ c.seq
  pub active : r.active ≡ active yk c
  pub heads : r.heads ≡ heads_len c
  pub count : r.count ≡ length (text_of c)

-- where the words from `at` on begin with a card's, that card is seen
abbrev pub SeesAny : List ℕ → ℕ → Seen → Type 0
SeesAny w at r = (yk : ℕ → Bool) (c : Card) (rest : List ℕ) → drop at w ≡ card_words yk c ++ rest → Fits c → Sees yk c r

-- and whether its history has 64 bytes
abbrev pub FullAny : List ℕ → ℕ → ℕ → Bool → Type 0
FullAny w at heads r = (yk : ℕ → Bool) (c : Card) (rest : List ℕ) → drop at w ≡ card_words yk c ++ rest → Fits c → heads ≡ heads_len c → r ≡ leb 63 (length c.later)
