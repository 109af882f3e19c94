pub mod BaseNumbers
pub mod Published
