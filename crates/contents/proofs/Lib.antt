pub mod Collecting
pub mod Storing
pub mod Parted
pub mod Chosen
pub mod NumbersGiven
pub mod Whole
