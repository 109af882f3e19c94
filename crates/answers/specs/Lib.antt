pub mod Left
pub mod Lists
pub mod Calls
pub mod Interval
pub mod Lines
