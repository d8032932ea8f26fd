pub mod Space
pub mod Little
