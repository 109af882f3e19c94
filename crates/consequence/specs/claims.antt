pub mod CallPlaces
pub mod Codons
pub mod Numbers
pub mod SomeTerm
