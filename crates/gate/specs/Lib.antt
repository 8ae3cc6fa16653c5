pub mod Views
pub mod Classes
pub mod Numbers
pub mod Sums
pub mod Gates
