pub mod Chunks
mod Counts
pub mod Points
pub mod Sheets
pub mod Stores
