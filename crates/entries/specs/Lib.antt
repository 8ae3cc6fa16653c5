pub mod Steps
pub mod Closing
pub mod Book
pub mod OneLabel
pub mod Sample
