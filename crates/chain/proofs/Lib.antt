-- Laws of the key chain, for this crate's proofs and its callers'.
pub mod Hashes
pub mod Steps
pub mod Bounds
