pub mod Bytes
pub mod Flags
pub mod Ran
