-- Laws of a section's keys, for this crate's proofs and its callers'.
pub mod Places
pub mod Judged
