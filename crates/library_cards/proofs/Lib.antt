-- The words ahead of a card's text lie in the image.
pub mod HeadsWithin
-- The tests of a card's words, one law for each way out of the code.
pub mod WordTests
-- Rows 5 and 6, one card after another: what is left to read at a place, one law for each way out of the code.
pub mod CardsLeft
-- Rows 1 to 6 are the rows of the tables, then those of the cards.
pub mod TablesThenCards
