pub mod Refusals
pub mod Chart
pub mod Drawn
pub mod Answer
pub mod FlatLayout
pub mod BedLayout
