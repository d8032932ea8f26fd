-- The columns of a line of the compile file, one after another: its text, its owner's name, its number.
pub mod LineColumns
-- What a compile file sees after a rollback is what it saw before.
pub mod ViewBack
-- What a compile file sees is the same for libraries that differ only in lines of cards that are off.
pub mod AlikeView
-- The active cards of an image up to a place, each from the one before it.
pub mod ActiveCards
-- The row of a name in a table of decks, looked for one row after another.
pub mod NameRow
-- A line goes into the space, or there is no more room.
pub mod LineRoom
-- The walk as it is carried out, card by card.
pub mod CardWalk
-- The rows of a table of decks are walked one after another.
pub mod TableWalk
-- What chosen decks write, whatever the space: a walk writes it in full or is stopped with 43 or 44.
pub mod WalkWrites
