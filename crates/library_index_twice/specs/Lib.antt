pub mod Twice
pub mod KeyTree
pub mod Slots
