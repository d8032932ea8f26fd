-- CODE. What a line is answered to be as a deck card's (RULES, "Decks").
--   deck_answer, deck_line_of
use Rattle.std.specs.Prelude.{ℕ, Bool, true, false}
use Rattle.library.specs.Library.{DeckLine, not_deck, bad_deck, deck_of}
use Rattle.library.specs.declared.DeckLine.{DeckLine as DeckAnswer}
use Rattle.library.specs.declared.DeckLine.TheVariants.{NotDeck, BadDeck, Deck, Common}

abbrev pub deck_answer : Bool → ℕ → DeckAnswer
deck_answer false w = Deck w
deck_answer true w = Common w

abbrev pub deck_line_of : DeckLine → DeckAnswer
deck_line_of not_deck = NotDeck
deck_line_of bad_deck = BadDeck
deck_line_of (deck_of common w) = deck_answer common w
