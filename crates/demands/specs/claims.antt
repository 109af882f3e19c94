pub mod Demands
pub mod Pairs
