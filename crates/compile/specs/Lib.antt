pub mod Compile
pub mod Answer
