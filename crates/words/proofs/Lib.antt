pub mod Bits
pub mod Overlays
pub mod Whole
pub mod Weave
