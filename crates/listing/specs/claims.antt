pub mod Numbers
pub mod Whole
pub mod Ranks
