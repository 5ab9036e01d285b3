pub mod Format
pub mod Faults
pub mod Tasks
pub mod Runs
pub mod Verdicts
pub mod Walking
