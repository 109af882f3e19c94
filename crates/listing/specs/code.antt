pub mod Lengths
pub mod Fields
