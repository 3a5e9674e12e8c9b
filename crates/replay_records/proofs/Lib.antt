-- what the proofs of `replay_record` and `replay_piece` use, and how pieces join
mod Records
mod Lines
pub mod Pieces
