pub mod Charts
pub mod Drawings
pub mod FlatBytes
pub mod Beds
