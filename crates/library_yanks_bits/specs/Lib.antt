pub mod SettledBits
