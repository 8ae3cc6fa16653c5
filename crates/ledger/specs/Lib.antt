pub mod Entries
pub mod Ledger
pub mod Store
pub mod Sheet
