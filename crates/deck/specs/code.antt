pub mod Links
pub mod Order
pub mod Reached
pub mod Table
pub mod Trail
