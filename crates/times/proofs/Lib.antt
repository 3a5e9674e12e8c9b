-- The bounds and laws of times and slots, for this crate's proofs and its callers'.
pub mod Times
