-- A line is read as a deck card's by its kind.
pub mod DeckLineKind
-- Which cards are deck cards, and of which decks.
pub mod DeckTitles
-- The decks of an image, one after another, and the rows of the table that stand for them.
pub mod DeckRows
-- Where the cards of YANK$$$ or of a deck end, the next deck card stands.
pub mod CardsEnd
-- Where the cards of YANK$$$ and the decks stand in the words of a sound library.
pub mod DeckPlaces
