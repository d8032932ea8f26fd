pub mod Lines
pub mod View
pub mod Walk
pub mod TableView
pub mod Steps
pub mod Ends
