pub mod Bits
pub mod Scans
