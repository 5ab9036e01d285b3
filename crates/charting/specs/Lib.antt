pub mod Picture
pub mod Rows
