pub mod Begins
pub mod Edges
pub mod Reaches
pub mod Screens
