pub mod Sums
pub mod Labels
pub mod Hashes
pub mod Rows
