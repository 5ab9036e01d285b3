pub mod Figures
pub mod Given
pub mod Fills
pub mod Lifts
pub mod Spending
pub mod Setting
