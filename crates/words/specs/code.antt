pub mod Near
pub mod Put
pub mod Row
