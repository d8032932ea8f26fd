-- Places in the array of cards, and sums of them: each fits a word, none being far past the array's end.
pub mod Sums
-- A card's heads say how many they are, and give back each field that was written.
pub mod Heads
-- What is read at a card's first word is the card's own: the fields of a head do not overlap.
pub mod Seeing
-- Cards stand one after another, each as long as its heads and its text, so a walk misses none.
pub mod Walking
-- One word more over the gap, and one byte more in the last word of a history.
pub mod GapSteps
-- A history with one byte more has the same words but for its last: it takes the byte, or one word is added.
pub mod Growing
-- Words that pass over the gap or change below it leave the rest as it was.
pub mod Parting
-- A card that passes over the gap with one byte more is written there as the card with that byte.
pub mod Marking
-- A byte of a card, settled, is that byte under the new flags, and says what it says in the model.
pub mod Fixing
-- The further words of a card's history, settled, are those under the new flags, and say what its bytes say.
pub mod Telling
-- The words of cards, settled, are the words they are written in under the new flags.
pub mod CardSettling
-- The gap moved to a place keeps the order of all words: those between come to its other side.
pub mod Moving
-- A card is looked for above the gap and then below it, and its index counts through both.
pub mod Locating
-- Whether a history has 64 bytes is read off its heads: their count, and the third byte of the last.
pub mod Fullness
-- The cards of a range pass over the gap one after another, those of the wanted activity with one byte more.
pub mod Ranging
-- A new card's head and text, written below the gap, make it the last card there.
pub mod Putting
-- The gap moved to where a card begins or ends parts the cards there: nothing else has changed.
pub mod Opening
-- In the library in work marked cards fit, and settled cards are those under the new flags.
pub mod Working
-- A range ends with the card named, and Limit is answered exactly where a limit would be passed.
pub mod Ending
-- With the gap directly ahead of a range's first card, the cards up to its last are marked.
pub mod Between
-- The library in work taken up from an image's cards and handed out again; a sound library's cards fit it.
pub mod Handing
-- A range among all cards: where its ends stand, and what marking it makes of the whole list.
pub mod RangeCards
-- A step in code and the step of the definitions: the same limits, the same refusals, a state that is held.
pub mod Stepping
-- A text line: the card put at the gap is the new card of the definitions at the flat place of the text.
pub mod Texting
-- A unit begins: a known name is refused; a new one stands at the directory's end, and nothing else changes.
pub mod Starting
-- INSERT and BEFORE: the card is found in the stream where the definitions find it in its part.
pub mod Correcting
-- A deck unit begins: its deck card stands at the stream's end, its name at the end of both tables.
pub mod Decking
-- Where an operation finds no room, the library it would make is over a limit, and 31 is the answer.
pub mod OverLimits
-- A walk over the cards of a range finds a deck card exactly where the range has one.
pub mod TitleWalk
-- YANK$$$ marked: all of it stands below the gap, and the bits are settled for the new flags.
pub mod YankMarking
-- A range marked in one part: the tables, the count of YANK$$$ and all that is not in that part stay.
pub mod MarkedParts
-- A range that was found is barred, past a limit, or marked in place.
pub mod RangeMarking
-- DELETE and RESTORE: both cards are sought, and the range is refused or marked as the definitions have it.
pub mod RangeAsking
-- The names of a YANK line, one by one: 26 and 27 by the directory and the deck list, over the whole line.
pub mod YankTests
-- The card of a YANK line at the end of YANK$$$: once the bits are settled the new state is held.
pub mod YankPutting
-- All bits settled again: the words have the bits of the flags that the words of YANK$$$ settle.
pub mod Resettling
-- What each step promises is what its line asks; a line that is refused or skipped changes no array.
pub mod Obeying
-- What is left of a stream from a line on goes as the whole stream goes from the start.
pub mod Streaming
-- The library in work written out, tables and cards below and above the gap, is the image.
pub mod Writing
-- Flags cleared from the first on, then those of a list's numbers set one after another.
pub mod Flagging
-- The walk goes from card to card up to the first deck card; no card passed was one.
pub mod Titling
-- An accepted image copied to the arrays of a run: its cards, their count, and the numbers of its decks.
pub mod Loading
-- A library taken up is held at the start of a run: cards below the gap, tables in arrays, decks flagged.
pub mod TakenUp
-- A run from the check to the answer: taken up, its lines obeyed, written out.
pub mod Running
