pub mod Coded
pub mod Exonic
pub mod Features
pub mod Ordered
pub mod Search
pub mod Sums
