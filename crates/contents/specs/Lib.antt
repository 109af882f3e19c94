pub mod Contents
pub mod code
pub mod claims
