pub mod Nearness
pub mod Blocks
pub mod Leaving
pub mod Positions
pub mod NearCalls
pub mod CallList
pub mod Beside
pub mod Indexed
