-- Words that are all zero.
pub mod Zeros
-- A name's number in the directory, by the place of the first entry that has it.
pub mod NameNumber
-- A name's ways lead through the tree to the first entry that has it; where they end no entry has it.
pub mod NameTree
