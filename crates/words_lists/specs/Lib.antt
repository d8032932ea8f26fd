pub mod Over
pub mod Ahead
