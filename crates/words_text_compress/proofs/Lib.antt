-- Codes put one after the other behind those that are there, and a run of blanks in two parts.
pub mod CodesBehind
-- A line squeezed to codes: a blank column waits, any other is written behind those that wait.
pub mod SqueezedLine
-- Words filled with ten codes each, one code at a time.
pub mod FilledWords
