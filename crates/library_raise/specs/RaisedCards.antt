-- MEANING. Cards and decks whose directory numbers are raised by n (RULES, "The merge").
--   raise_byte, raise_card, raise_deck
use Rattle.std.specs.Prelude.{ℕ, ◌+◌, map}
use Rattle.library.specs.Library.{Byte, Card, Deck}

abbrev pub raise_byte : ℕ → Byte → Byte
raise_byte n b = record { number = n + b.number; activating = b.activating }

-- the line and the sequence number stay
abbrev pub raise_card : ℕ → Card → Card
raise_card n c = record { line = c.line; seq = c.seq; owner = n + c.owner; later = map (raise_byte n) c.later }

abbrev pub raise_deck : ℕ → Deck → Deck
raise_deck n d = record { number = n + d.number; common = d.common; line = d.line; cards = map (raise_card n) d.cards }
