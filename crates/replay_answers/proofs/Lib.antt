-- what the functions' proofs share
pub mod Answered
