pub mod Tweaks
pub mod Tape
pub mod Words
pub mod Garbling
pub mod Steps
pub mod Marks
pub mod Evaluation
