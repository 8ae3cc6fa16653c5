mod Words
pub mod Examples
