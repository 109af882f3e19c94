pub mod Line
pub mod Numbers
pub mod code
pub mod claims
