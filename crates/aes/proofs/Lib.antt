-- The laws that the functions' proofs share.
mod Ciphertexts
mod Endian
mod Inverse
mod KeyBytes
mod Polynomials
mod Readings
mod Transforms
mod Tweaks
mod Words
