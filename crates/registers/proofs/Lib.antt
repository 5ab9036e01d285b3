pub mod Words
pub mod Spelling
