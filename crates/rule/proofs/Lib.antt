pub mod Free
pub mod Performed
pub mod Spares
pub mod Turns
