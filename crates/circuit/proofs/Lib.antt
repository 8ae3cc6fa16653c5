pub mod Scans
pub mod Tables
pub mod Accepts
pub mod PlainRuns
pub mod Publics
