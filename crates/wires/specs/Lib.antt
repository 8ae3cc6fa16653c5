pub mod Wires
pub mod Read
