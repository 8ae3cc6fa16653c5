pub mod Lowest
pub mod Faults
pub mod Gates
pub mod Sheets
pub mod Labels
pub mod Outputs
pub mod Runs
pub mod Passes
