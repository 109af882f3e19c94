pub mod GapList
pub mod Endpoints
pub mod Spills
pub mod Flanking
pub mod Asked
pub mod BaseSpills
pub mod NumbersGiven
