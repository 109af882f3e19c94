pub mod Decks
pub mod List
