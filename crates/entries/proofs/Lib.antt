mod Counting
mod Facts
mod Laws
mod Promise
mod States
mod Writes
pub mod SampleBook
