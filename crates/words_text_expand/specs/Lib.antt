pub mod Answers
pub mod Saying
