pub mod Naming
pub mod Parts
