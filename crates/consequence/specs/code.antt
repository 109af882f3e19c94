pub mod AtPlace
pub mod Prepared
pub mod Segments
