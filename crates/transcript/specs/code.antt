pub mod Lent
pub mod Judged
pub mod Admitted
pub mod Stranded
