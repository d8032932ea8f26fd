-- How many digits a number has, by the powers of ten.
pub mod DigitCount
-- A card's name, a point and a number written one after another.
pub mod PointedName
-- The check's answer decides, and an accepted image has the names of its library's entries and cards.
pub mod AcceptedNames
-- The word of an entry is 0 outside the directory, and else the word that stands there.
pub mod EntryOrZero
