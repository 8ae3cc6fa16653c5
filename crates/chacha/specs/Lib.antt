pub mod Words
pub mod Bytes
pub mod Rounds
pub mod Block
pub mod Hash
