pub mod Controls
pub mod Layout
pub mod Read
pub mod Back
