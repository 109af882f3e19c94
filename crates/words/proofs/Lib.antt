pub mod Putting
pub mod WordLengths
pub mod Capping
