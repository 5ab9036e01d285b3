pub mod Layers
pub mod Ways
pub mod Laws
