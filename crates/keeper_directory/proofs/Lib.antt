-- The check's answer decides: an accepted image is listed, and a refused one is answered with its fault.
pub mod CheckDecides
-- Rows of eleven bytes, one after another: a name in nine columns, a kind and a mark.
pub mod RowBytes
-- Each deck's kind stands at its number, as the deck cards stand.
pub mod DeckKinds
-- In a sound library's image the words ahead of the first deck card are those of the cards of YANK$$$.
pub mod YankWords
-- The rows of an image that the check accepts are those of its library.
pub mod LibraryRows
-- Each case of what the keeper is shown computes to true.
pub mod KeeperCases
