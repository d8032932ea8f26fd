-- Texts put one after another make the line of a refusal, its numbers without blanks ahead of them.
pub mod RefusalLine
-- What the program writes for each answer of unpacking and compiling.
pub mod ProgramWrites
