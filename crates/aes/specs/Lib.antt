-- What the contracts cite: FIPS 197 over its field, the hash built on it, and what the code keeps.
pub mod Field
pub mod Fips197
pub mod Columns
pub mod Hash
pub mod Multiples
pub mod Keys
