-- One list over another, where it fits, where it does not.
pub mod OverLists
