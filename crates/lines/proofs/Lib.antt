pub mod Fitting
pub mod Shown
pub mod TermList
pub mod AnswerLine
pub mod Longest
pub mod NumbersGiven
