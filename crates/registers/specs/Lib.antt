pub mod Codes
pub mod State
pub mod Accesses
