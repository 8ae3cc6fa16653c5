pub mod Chance
pub mod Round
pub mod CircuitComputes
pub mod CircuitBlind
pub mod MondayRound
