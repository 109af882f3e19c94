pub mod Numbers
pub mod Longest
