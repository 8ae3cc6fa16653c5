pub mod Rows
pub mod Opening
pub mod MarkSteps
pub mod Ready
pub mod Laws
