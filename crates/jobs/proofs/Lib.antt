pub mod Walk
pub mod Draws
pub mod Reading
pub mod Judging
