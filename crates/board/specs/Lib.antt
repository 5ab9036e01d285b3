pub mod State
pub mod Steps
pub mod Slips
pub mod Scans
