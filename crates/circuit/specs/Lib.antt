pub mod Read
pub mod Check
pub mod Accepted
pub mod Plain
pub mod Public
