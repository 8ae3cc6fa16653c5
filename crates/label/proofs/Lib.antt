pub mod Solve
pub mod Every
pub mod Groups
pub mod Chains
