-- Cards that were read stand in the words one after another.
pub mod Walking
-- Cards in a row from a place up to another: the first of them below the end, and none at the end.
pub mod Spanning
-- What is seen of a card that was read is the card.
pub mod Showing
-- Stored bytes say what the history says: unused bytes are zero and say nothing.
pub mod Telling
-- Deck cards: a step of row 7 for each way out.
pub mod Decking
-- The names of a YANK line, one by one: what row 8 asks of each.
pub mod Naming
-- Two cards share owner and number just where their keys are the same, since a number has 18 bits.
pub mod Keying
-- A card that was read stands in the image, and in the part of it that holds the cards up to a place.
pub mod Cutting
-- The rows together: each answers for the cards that were read, and the flags are those of the library read.
pub mod Checking
