pub mod Longer
pub mod Carry
pub mod Gains
pub mod claims
