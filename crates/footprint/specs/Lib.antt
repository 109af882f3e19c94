pub mod Ranges
pub mod Flank
pub mod ShortIntron
pub mod Question
pub mod Numbers
pub mod code
pub mod claims
