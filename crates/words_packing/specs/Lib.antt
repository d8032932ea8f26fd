pub mod Pack
pub mod PackTrip
