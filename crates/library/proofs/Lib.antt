-- What holds of every element of a list, and the Boolean tests that say so.
pub mod EachTest
-- No two elements of a list alike: tested with those ahead of each, or with those behind it.
pub mod NoTwo
-- The directory by name and by number: each name stands at its number, and has no other.
pub mod EntryNames
-- Rows 1 to 4 that find no fault, as facts on the directory and the deck list, both ways.
pub mod TableRows
-- Rows 8 and 10 that find no fault, as facts on the cards, both ways.
pub mod CardRows
-- The yank rule has one solution: what `settled` computes solves it, and any two solutions agree.
pub mod OneSolution
-- An image that the check accepts passes every row, and its library is what rows 5 and 6 read.
pub mod AcceptedImage
-- Cards that rows 5 and 6 read are written in the words that were read, of sound form and not too many.
pub mod ReadAsWritten
-- Cards that pass row 7 fall into YANK$$$ and the decks of the list, and none is lost.
pub mod CardsInDecks
-- In an accepted image the tables fit, the deck list names the decks, and the cards fall into these decks.
pub mod ImageLayout
-- An accepted image is what the library that was read is written in: its tables, and card by card its bits.
pub mod CheckEncode
-- The library of an accepted image is sound.
pub mod CheckSound
-- A library as one run of cards, each with the number of its deck: its stream and its words.
pub mod DealtCards
-- The words ahead of a card's text give back what they were written from: where they end, and each field.
pub mod FieldsBack
-- A history's bytes, written with their flags, give back numbers and flags, and pass row 5.
pub mod BytesBack
-- Sound cards, written in words, are read back by rows 5 and 6.
pub mod ReadBack
-- The cards of a sound library, stored one after another, part into that library and pass rows 7 to 10.
pub mod RowsBack
-- Every word of a sound library's image has 60 bits.
pub mod WordsFit
-- The image of a sound library passes every row of the check and is read as that library.
pub mod EncodeCheck
-- The check accepts exactly the images of sound libraries, and a sound library has an image of its own.
pub mod CheckExact
-- In a sound library cards of YANK$$$ name lower numbers than their own, so the rule has exactly one solution.
pub mod YankedUnique
-- What holds of lists that are appended: for each element, for any, under map.
pub mod AppendedLists
-- What `any` and `all` say of a member, and of a list in which none passes.
pub mod AnyAndAll
-- A library is a growth of itself, and cards, decks and bytes added to a growth give a growth.
pub mod GrowthSteps
-- As a directory grows, known names keep their numbers and new ones get the numbers after its count.
pub mod NewEntries
-- After sets are taken back each lower number is yanked where it was, and those sets are yanked everywhere.
pub mod Rollback
-- What the cards of YANK$$$ in a sound library act on stays the same whatever names come after.
pub mod YankTargets
-- What is yanked in a sound library is the one solution of the rule over its cards of YANK$$$.
pub mod SettledFlags
-- Libraries that differ only in the text of inactive cards have the same numbers yanked.
pub mod AlikeFlags
-- A list with one element more, anywhere: what holds of each, how long it is, that no two are alike.
pub mod InsertedElement
-- With a new name at a directory's end its numbers and names stay, and what is sound stays sound.
pub mod NameAtEnd
-- In a growth the old cards stand in their order through all parts, each deck with its deck card first.
pub mod GrownStream
-- The first place of a list that passes a test is found at a place, or looked for one further.
pub mod FirstPlace
-- The limits of a library by its counts: entries, decks, cards, bytes of each history, and words.
pub mod LimitsByCount
-- An accepted image is the image of the library that was read: its parts are that library's tables and cards.
pub mod ImageParts
-- What holds of each card of YANK$$$ and of the decks holds of each card of the stream.
pub mod StreamCards
-- In a directory that follows another a name that the first lacks has its number raised by the first's count.
pub mod NumbersBeyond
-- The names of a YANK line are names.
pub mod YankNames
-- Row 5 of a card, what it is written as being what is written, is word by word a test of bit fields.
pub mod FormByWord
-- A card whose form is right lies in the words.
pub mod CardWithin
