pub mod CodingBases
pub mod CodingPositions
pub mod Numbers
