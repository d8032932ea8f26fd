-- What a line without a star in column 1 says of a CALL.
pub mod CallLine
-- A list cut at the first element that passes a test, found place by place.
pub mod CutAtFirst
-- The parts of a directive's line, by their places.
pub mod FieldPlaces
-- A list split at the elements that pass a test, and a question put to each part.
pub mod SplitList
-- Names by the words that are read of them: a word is 0 where there is no name.
pub mod NamesByWord
-- The lines of a stream, one after another: what a loop over them cites.
pub mod StreamLines
-- The names of a field walked one after another: what a loop over a YANK's names cites.
pub mod FieldNames
-- What is known of a line from what it asks: its directive's kind, and that a unit's name is a name.
pub mod AskedLine
-- Trailing blanks change nothing of what a line asks, so a card asks what its line asked.
pub mod TrailingBlanks
-- The lines of two streams one after the other, where the first ends with a line, are those of both.
pub mod LinesAppend
