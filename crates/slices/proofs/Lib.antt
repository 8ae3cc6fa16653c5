pub mod Calls
pub mod LittleLaws
pub mod Widths
