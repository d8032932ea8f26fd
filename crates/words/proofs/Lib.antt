-- Tests taken apart: what `&&`, `||`, `all` and `same` say of their parts.
pub mod TestParts
-- A test computed at every place, or at every place but those that the keys of a match have met.
pub mod EveryPlace
-- The chart read both ways: each rule is one test that antt computes over the whole chart.
pub mod ChartBothWays
-- A line without its trailing blanks: what trimming keeps, and trimming column by column from the end.
pub mod TrimmedLine
-- The columns that a compressed line stands for are its own, and how many codes it has.
pub mod CompressedLine
-- Words of ten codes: the codes read back, and how many words there are.
pub mod TenCodes
-- Text goes to words and back.
pub mod TextTrip
-- A test on every element of a list, from the front: the rest decides as long as all passed.
pub mod AllPass
-- Powers of 64, the place values of codes.
pub mod Powers
-- The code at a place of a word.
pub mod CodeAtPlace
-- A name's word from its letters, and a word's letters.
pub mod NameWord
-- Decimal numbers read and written, one digit at a time.
pub mod DecimalDigits
-- Names go to words and back, and numbers to digits and back.
pub mod NameTrip
-- The words of a text and of a name have 60 bits.
pub mod SixtyBits
