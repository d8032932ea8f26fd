pub mod Base
pub mod Display
pub mod Text
pub mod Names
pub mod Spelt
pub mod TextTrip
pub mod NameTrip
