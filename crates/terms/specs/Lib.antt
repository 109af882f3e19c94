pub mod Severity
pub mod Terms
pub mod Coding
pub mod claims
