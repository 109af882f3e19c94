pub mod Bases
pub mod Table
pub mod Altered
pub mod Display
pub mod claims
pub mod code
