-- What rows 1 and 3 say where they pass, and row 3 as the tests of word 2 and the tables' end.
pub mod TableCounts
-- Row 4: the words of a table one after the other, each with those ahead of it.
pub mod TableWords
-- A row's fault is the answer, or what comes after the row.
pub mod FirstFault
