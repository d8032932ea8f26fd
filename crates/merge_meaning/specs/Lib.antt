pub mod Merge
pub mod Merged
