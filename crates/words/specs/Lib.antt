pub mod Model
pub mod Call
pub mod IntervalWords
pub mod Lengths
pub mod code
