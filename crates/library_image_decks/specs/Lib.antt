pub mod Decks
