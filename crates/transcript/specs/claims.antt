pub mod Numbers
pub mod Phases
