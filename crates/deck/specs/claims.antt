pub mod Numbers
pub mod Transcripts
