pub mod Keeper
pub mod Parts
pub mod Examples
