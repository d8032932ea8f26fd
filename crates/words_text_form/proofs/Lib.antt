-- Runs of blanks taken apart: a run and one code more.
pub mod BlankRuns
-- Codes that are taken one by one are those that their line is written in.
pub mod FormSound
-- The codes that a line is written in are taken one by one.
pub mod FormTaken
-- Two texts of the same codes, fill aside, are the same words.
pub mod FormWords
-- Words are text where their codes are in the one right form.
pub mod OneForm
-- The codes of a word taken from the top.
pub mod TopCodes
-- The fields of the codes, where what may follow is held as six times its number, by one test at each place.
pub mod FormTable
-- A text walked code by code: what is known after each code and each word.
pub mod FormWalk
