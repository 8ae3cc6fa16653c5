pub mod LowestWires
pub mod NumberedWires
pub mod Numbered
pub mod Rooms
pub mod Evaluated
pub mod Decoded
pub mod Stops
pub mod Passing
