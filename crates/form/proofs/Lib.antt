pub mod ControlWords
pub mod Standing
pub mod Backs
