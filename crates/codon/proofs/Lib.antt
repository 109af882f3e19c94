pub mod BaseNumbers
pub mod Index
pub mod Replaced
pub mod Stored
