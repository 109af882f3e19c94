pub mod TableIndex
pub mod Opening
pub mod Files
pub mod Filling
